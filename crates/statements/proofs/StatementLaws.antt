-- What one item's reader and writers did is what the parser of an item promises. Assumes nothing.
use Prim.Native.Nat.{ℕ, suc, ◌+◌, ◌-◌}
use native.Mathlib.Nat.{add-zero}
use native.Mathlib.Numerals.{add-one}
use native.Mathlib.Omega.{arith}
use mathlib.Core.Path.{◌≡◌, refl, sym, ap, ◌∙◌}
use mathlib.Core.List.{List, [], ◌∷◌, map, append-nil}
use lib.ListN.{length}
use Rattle.tokens.specs.Token.{Token}
use Rattle.tokens.specs.Lent.{put_all}
use Rattle.grammar.specs.Reading.{Argument, Simple, Sort, called}
use Rattle.grammar.specs.Result.{Res, got, bad}
use Rattle.grammar.specs.Records.{type_of, simple_record, argument_record, arguments_of, simple_records}
use Rattle.std.specs.Prelude.{Result, Ok}
use Rattle.lists.specs.declared.before.Before.{Before}
use Rattle.lists.specs.declared.list.ArgList.{ArgList}
use Rattle.statements.specs.declared.item.Progress.{Progress}
use Rattle.statements.specs.declared.item.Lone.{Lone}
use Rattle.statements.specs.declared.item.StatementType.{StatementType}
use Rattle.lists.specs.Answers.{ListWithin}
use Rattle.statements.specs.Answers.{simple_answer, simple_arguments, SimpleParsed}
use Rattle.statements.specs.Item.{OneRead, PushRead, with_list, type_number, simple_words, called_behind, called_answer, CalledTable, OnePut, PushPut, ListPut}
use Rattle.statements.proofs.Pieces.{Piece, piece_parsed, refused_parsed}

-- two tallies with the same numbers
pub progress_same : {a b c a' b' c' : ℕ} → a ≡ a' → b ≡ b' → c ≡ c'
    → ◌≡◌ {A = Progress} (record { at = a; statements = b; arguments = c }) (record { at = a'; statements = b'; arguments = c' })
progress_same e f g = rw (e, f, g)

-- the record of a statement, by what is known of it
record_words : (before : Before) (x : Simple) (s : Progress) (ty : StatementType) {end count place : ℕ} → type_of x.sort ≡ type_number ty → x.first ≡ s.at → x.end ≡ end → length x.args ≡ count → x.place ≡ place
    → simple_record (before.statements + s.statements) (before.arguments + s.arguments) x ≡ simple_words s before ty end count place
record_words before x s ty e f g h k = rw (e, f, g, h, k, add-one)

one_arguments : (x : Simple) → arguments_of (x ∷ []) ≡ x.args
unfolding arguments_of
one_arguments x = append-nil x.args

module _ (before : Before) (size : ℕ) where
  simple_from : {s t : Progress} {k n m : ℕ} {rs qs : List (List ℕ)} {st ar st' ar' : List ℕ} {read : Res (List Simple)} (ss : List Simple)
      → Piece s size k n m rs qs st ar t st' ar'
      → read ≡ got ss k
      → length ss ≡ n
      → length (arguments_of ss) ≡ m
      → simple_records (before.statements + s.statements) (before.arguments + s.arguments) ss ≡ rs
      → simple_arguments ss ≡ qs
      → SimpleParsed s before size read st ar (Ok t) st' ar'
  simple_from ss v e en em er ea = piece_parsed simple_answer simple_records simple_arguments before ss v e (rw (en, em)) er ea

  -- one statement
  pub one_parsed : {s t : Progress} {st ar st' : List ℕ} {read : Res (List Simple)} {x : Lone}
      → OneRead s.at size read x → OnePut st s before x t st' → SimpleParsed s before size read st ar (Ok t) st' ar
  unfolding put_all simple_records
  one_parsed {s} {t} {st} {ar} {st'} {x = x} o v =
      simple_from (o.what ∷ []) piece o.is refl
      (ap length (one_arguments o.what ∙ o.args))
      (ap (λ (w : List ℕ). w ∷ []) (record_words before o.what s x.ty o.sort o.first o.end (ap length o.args) o.place))
      (ap (map argument_record) (one_arguments o.what ∙ o.args))
    where
      piece : Piece s size o.tokens 1 0 (simple_words s before x.ty x.end 0 x.place ∷ []) [] st ar t st' ar
      piece =
          record {
            is = v.is ∙ progress_same o.behind refl (sym (add-zero s.arguments));
            statements = v.table;
            arguments = refl;
            inside = omega (arith, o.inside, o.behind);
            few_statements = omega (arith, o.some);
            few_arguments = omega arith;
          }

  -- a push with its literal
  pub push_parsed : {s t : Progress} {st ar st' : List ℕ} {all : List Token} {read : Res (List Simple)}
      → PushRead s.at size all read → PushPut st s before t st' → SimpleParsed s before size read st ar (Ok t) st' ar
  unfolding put_all simple_records arguments_of
  push_parsed {s} {t} {st} {ar} {st'} {all} o v =
      simple_from _ piece o.is refl refl
      (words_same (omega arith) (omega arith) (omega arith) (omega arith) (omega arith) (omega arith) (omega arith))
      refl
    where
      words_same : {x₁ x₂ x₃ y₁ y₂ y₃ y₄ x₁' x₂' x₃' y₁' y₂' y₃' y₄' : ℕ} {p c : ℕ} → x₁ ≡ x₁' → x₂ ≡ x₂' → y₁ ≡ y₁' → y₂ ≡ y₂' → y₃ ≡ y₃' → y₄ ≡ y₄' → x₃ ≡ x₃'
          → ◌≡◌ {A = List (List ℕ)} ((2 ∷ p ∷ x₁ ∷ x₂ ∷ 0 ∷ c ∷ 0 ∷ p ∷ []) ∷ (1 ∷ y₁ ∷ y₂ ∷ y₃ ∷ 0 ∷ x₃ ∷ 0 ∷ y₄ ∷ []) ∷ []) ((2 ∷ p ∷ x₁' ∷ x₂' ∷ 0 ∷ c ∷ 0 ∷ p ∷ []) ∷ (1 ∷ y₁' ∷ y₂' ∷ y₃' ∷ 0 ∷ x₃' ∷ 0 ∷ y₄' ∷ []) ∷ [])
      words_same e f g h j k l = rw (e, f, g, h, j, k, l)

      piece : Piece s size 2 2 0
          ((2 ∷ s.at ∷ (s.at + 1) ∷ (before.statements + s.statements + 1) ∷ 0 ∷ (before.arguments + s.arguments) ∷ 0 ∷ s.at ∷ []) ∷ (1 ∷ (s.at + 1) ∷ (s.at + 1 + 1) ∷ (before.statements + (s.statements + 1) + 1) ∷ 0 ∷ (before.arguments + s.arguments) ∷ 0 ∷ (s.at + 1) ∷ []) ∷ [])
          [] st ar t st' ar
      piece =
          record {
            is = v.is ∙ progress_same (omega arith) (omega arith) (omega arith);
            statements = v.table;
            arguments = refl;
            inside = o.inside;
            few_statements = omega arith;
            few_arguments = omega arith;
          }

  -- a name or a builtin with its list
  pub list_parsed : {s : Progress} {st ar st' ar' : List ℕ} {read : Res (List Simple)} {r : Result Progress (ℕ × ℕ)} (sort : Sort) (t : Token) (lread : Res (List Argument)) (ty : StatementType)
      → read ≡ with_list sort s.at t lread
      → ListPut s before ty size lread st ar r st' ar'
      → type_of sort ≡ type_number ty
      → SimpleParsed s before size read st ar r st' ar'
  unfolding put_all simple_records
  list_parsed {s} {st} {ar} {st'} {ar'} {read} {r} sort t (bad y w) ty e v ty-is =
      rw (v.is ∙ ap (called_answer s) v.listed.is) (refused_parsed simple_answer simple_records simple_arguments before y w e refl refl)
  list_parsed {s} {st} {ar} {st'} {ar'} {read} {r} sort t (got args k) ty e v ty-is =
      rw (v.is ∙ ap (called_answer s) v.listed.is)
      (simple_from (x ∷ []) piece e refl
      (ap length (one_arguments x))
      (ap (λ (w : List ℕ). w ∷ []) (record_words before x s ty ty-is refl refl (omega arith) refl))
      (ap (map argument_record) (one_arguments x)))
    where
      x : Simple
      x = called sort s.at t (s.at + 1 + k) args

      list : ArgList
      list = record { arguments = s.arguments + length args; end = s.at + 1 + k }

      table : CalledTable st s before ty (Ok list) st'
      table = rw v.listed.is at v.table

      h : ListWithin s.arguments (s.at + 1) size (Ok list)
      h = rw v.listed.is at v.listed.within

      piece : Piece s size (suc k) 1 (length args) (simple_words s before ty list.end (list.arguments - s.arguments) s.at ∷ []) (map argument_record args) st ar (called_behind s list) st' ar'
      piece =
          record {
            is = progress_same (omega arith) refl refl;
            statements = table;
            arguments = v.listed.records;
            inside = omega (arith, h.1);
            few_statements = omega arith;
            few_arguments = omega (arith, h.2);
          }
