-- Laws of definitions: the head, the signature, the record, the choice by kind. Assumes nothing.
use Prim.Native.Nat.{ℕ, suc, ◌+◌, ◌-◌, ◌≤◌, ◌<◌}
use native.Mathlib.Nat.{add-zero}
use native.Mathlib.Numerals.{add-one, add-two}
use native.Mathlib.Omega.{arith}
use mathlib.Core.Path.{◌≡◌, refl, sym, ap, ◌∙◌}
use mathlib.Core.Bool.{false}
use mathlib.Core.List.{List, [], ◌∷◌, ◌++◌, map, append-nil, map-append}
use Rattle.std.specs.Prelude.{Some, None, Result, Ok, Err}
use lib.ListN.{length, drop, length-append, length-map}
use Rattle.tokens.specs.Token.{Token, token_at, view, Positions}
use Rattle.tokens.specs.Place.{KindAt}
use Rattle.tokens.specs.Source.{all, all_from, count}
use Rattle.tokens.specs.declared.source.Source.{Source}
use Rattle.tokens.specs.Number.{definition_width, argument_width}
use Rattle.tokens.specs.Lent.{put, put_all}
use Rattle.tokens.specs.Kind.{Include, Define, Pound, Constant, Returns, View, Pure, Payable, NonPayable, Assign, FreeStoragePointer, Ident, Literal, Str}
use Rattle.tokens.proofs.LentLaws.{put_all_append}
use Rattle.grammar.specs.Reading.{Argument}
use Rattle.grammar.specs.Result.{Why, plain, Res, got, bad, Step, refuse, taken, stepped, with_one_more, choose, counted, joined, expect, seq}
use Rattle.grammar.specs.Typed.{typed_argument}
use Rattle.grammar.specs.Rules.{Rules}
use Rattle.grammar.specs.Records.{argument_record}
use Rattle.grammar.specs.FileReading.{the_macro, the_fn, the_test, jump_table, packed_table, code_table, Value, literal_at, pointer_at, Form, an_import, a_function, an_event, an_error, a_defined_constant, a_macro, a_table, Definition}
use Rattle.grammar.specs.FileReader.{named, parse_args, function_type, function_rest, parse_imports, constant_value, constant_rest, parse_constant, by_kind, kind_table, top_table, parse_definition, top_level}
use Rattle.grammar.specs.FileRecords.{form_arguments, form_count, form_statements, value_words, definition_record}
use Rattle.grammar.proofs.AtPlace.{seq_got, seq_bad}
use Rattle.lists.specs.Answers.{one, ListRead}
use Rattle.lists.specs.declared.list.ArgList.{ArgList}
use Rattle.lists.specs.declared.before.Before.{Before}
use Rattle.definitions.specs.declared.record.DefRead.{DefRead}
use Rattle.definitions.specs.declared.record.DefinitionKind.{DefinitionKind}
use Rattle.definitions.specs.declared.record.DefinitionKind.TheVariants as kinds
use Rattle.definitions.specs.declared.record.Found.{Found}
use Rattle.definitions.specs.declared.signature.FunctionType.{FunctionType}
use Rattle.definitions.specs.declared.signature.FunctionType.TheVariants as types
use Rattle.definitions.specs.declared.signature.Signature.{Signature}
use Rattle.grammar.specs.Written.{RefusedRead}
use Rattle.definitions.specs.declared.record.Definition as code
use Rattle.definitions.specs.declared.signature.Listed.{Listed}
use Rattle.definitions.specs.declared.signature.Listed.TheVariants.{Event, Error}
use Rattle.definitions.specs.Answers.{definition_words, definition_number, form_kind, code_definition, is_named, DefParsed, DefAdded}
use Rattle.definitions.specs.Found.{bare, definition_of}
use Rattle.definitions.proofs.HeadLaws.{refused_parsed, named_is, one_more}
use Rattle.definitions.specs.Pieces.{TypeRead, Typed, Headed, Keyed, type_number, type_word, Bodiless, Signed, SignatureRead, list_sort, list_definition, list_form, list_rest, outputs_rest, Outputs, OutputsRead, signed_found, signed_read}
use Rattle.definitions.specs.declared.constant.ConstVal.{ConstVal}
use Rattle.definitions.specs.declared.constant.ConstVal.TheVariants as constvals
use Rattle.definitions.specs.Constant.{value_of, place_of, Valued, ValueRead, value_type, constant_found, constant_at}
use Rattle.lists.proofs.At.{kind_is, token_here, choose_none, NoneOf, look_table, expect_yes, expect_no}

-- one that is refused at its own place
pub refused_plain : {A : Type 0} {c q : ℕ} {read : Res A} → read ≡ bad (plain c) q → RefusedRead read c q
refused_plain {c = c} {q = q} e = record { why = plain c; place = q; is = e; numbered = refl; cursor = sym (add-zero q) }

pub refused_same : {A B : Type 0} {c q : ℕ} {read : Res A} {other : Res B} → RefusedRead read c q → ((y : Why) (w : ℕ) → read ≡ bad y w → other ≡ bad y w) → RefusedRead other c q
refused_same h f = record { why = h.why; place = h.place; is = f h.why h.place h.is; numbered = h.numbered; cursor = h.cursor }

-- its arguments are its inputs and outputs
arguments_are : {ins outs x y : ℕ} (f : Form) → Bodiless f ins outs x y → ins + outs ≡ length (form_arguments f)
unfolding form_arguments
arguments_are f b = rw (length-append, length-append, b.inputs, b.outputs, b.inner, add-zero)

-- a definition without statements, as it is answered
pub bodiless_parsed : {least : ℕ} {all : List Token} {p : ℕ} {before : Before} {size n : ℕ} {read : Res Definition} {st ar ar' : List ℕ} {r : Result DefRead (ℕ × ℕ)} {form : Form} (f : Found)
    → read ≡ got (record { first = f.first; end = f.end; name = f.name; token = token_at all f.name; form = form }) n
    → Bodiless form f.inputs f.outputs f.a f.b
    → form_kind form ≡ f.kind
    → f.statements ≡ 0
    → f.end ≡ p + n
    → r ≡ Ok (record { definition = definition_of before f; arguments = f.inputs + f.outputs })
    → ar' ≡ put_all argument_width ar 0 (map argument_record (form_arguments form))
    → p < f.end
    → f.end ≤ size
    → f.inputs + f.outputs + p ≤ f.end
    → DefParsed least all p before size read st ar r st ar'
unfolding put_all
bodiless_parsed {all} {before = before} {form = form} f is b k none ends r-is ar-is low high few =
    let unnamed : is_named (definition_number f.kind) ≡ false = rw (← k) (named_is form ∙ b.no_macro) in
    let same : definition_of before f ≡ code_definition before (record { first = f.first; end = f.end; name = f.name; token = token_at all f.name; form = form }) =
    rw (none, ← k, ← b.inputs, ← b.outputs, b.none, b.words) in
    rw (is, r-is)
    (record {
      is = rw (same, arguments_are form b);
      statements_hold = rw b.statements;
      arguments_hold = ar-is;
      stands = (refl, ends);
      within = (low, high, omega (arith, none), few, rw unnamed tt);
    })

-- ---- the head

-- the definition that ends at q, with the name t at n
abbrev finished : ℕ → ℕ → Token → Form → ℕ → List Token → Res Definition
finished first n t f q ts = got (record { first = first; end = q; name = n; token = t; form = f }) 0

module _ (all : List Token) (k first p : ℕ) (rest : ℕ → List Token → Res Form) where
  abbrev made : ℕ → List Token → Res Definition
  made = seq rest (finished first (suc p) (token_at all (suc p)))

  -- another token stands at p
  pub unkeyed : ((token_at all p).kind ≡ k → ⊥) → expect k (plain 1) (λ t. named first rest) p (drop p all) ≡ bad (plain 1) p
  unkeyed h = expect_no p all k (plain 1) (λ t. named first rest) h

  -- no name stands behind it
  pub unnamed : (token_at all p).kind ≡ k → ((token_at all (suc p)).kind ≡ Ident → ⊥) → expect k (plain 1) (λ t. named first rest) p (drop p all) ≡ bad (plain 1) (suc p)
  unfolding named
  unnamed e h =
      expect_yes p all k (plain 1) (λ t. named first rest) e
      ∙ ap with_one_more
      (expect_no (suc p) all Ident (plain 1) (λ n. seq rest (finished first (suc p) n)) h)

  module _ (size : ℕ) (h : Headed all k p size (Ok tt)) where
    behind : expect k (plain 1) (λ t. named first rest) p (drop p all) ≡ with_one_more (with_one_more (made (p + 2) (drop (p + 2) all)))
    unfolding named
    behind =
        expect_yes p all k (plain 1) (λ t. named first rest) h.keyword
        ∙ ap with_one_more
        (expect_yes (suc p) all Ident (plain 1) (λ n. seq rest (finished first (suc p) n)) h.name)
        ∙ ap (λ q. with_one_more (with_one_more (made q (drop q all)))) (sym (add-two p))

    -- both stand there, and the rest decides
    pub named_got : (f : Form) (n : ℕ) → rest (p + 2) (drop (p + 2) all) ≡ got f n
        → expect k (plain 1) (λ t. named first rest) p (drop p all)
        ≡ got (record { first = first; end = p + 2 + n; name = p + 1; token = token_at all (p + 1); form = f }) (2 + n)
    named_got f n e =
        let two : suc (suc n) ≡ 2 + n = omega arith in
        behind
        ∙ ap (λ x. with_one_more (with_one_more x)) (seq_got rest (finished first (suc p) (token_at all (suc p))) (p + 2) n all f e)
        ∙ rw (add-zero, add-one, two)

    pub named_bad : (y : Why) (w : ℕ) → rest (p + 2) (drop (p + 2) all) ≡ bad y w → expect k (plain 1) (λ t. named first rest) p (drop p all) ≡ bad y w
    named_bad y w e =
        behind
        ∙ ap (λ x. with_one_more (with_one_more x))
        (seq_bad rest (finished first (suc p) (token_at all (suc p))) (p + 2) (drop (p + 2) all) y w e)

    -- a function, an event or an error: the head, its signature and its record
    pub signature_parsed : {kind : DefinitionKind} {before : Before} {st ar ar' : List ℕ} {r : Result DefRead (ℕ × ℕ)} (s : Signature)
        → Signed kind (p + 2) size (rest (p + 2) (drop (p + 2) all)) ar s ar'
        → r ≡ Ok (signed_read kind first (p + 1) before s)
        → DefParsed 7 all p before size (expect k (plain 1) (λ t. named first rest) p (drop p all)) st ar r st ar'
    signature_parsed {kind} s g w =
        bodiless_parsed {n = 2 + g.tokens} (signed_found kind first (p + 1) s) (named_got g.form g.tokens g.is ∙ rw (← g.ends)) g.says g.kinded refl (omega (arith, g.ends)) w g.records (omega (arith, g.further)) g.inside (omega (arith, g.few))

    pub signature_refused : {c q : ℕ} {before : Before} {st ar st' ar' : List ℕ} {r : Result DefRead (ℕ × ℕ)} → RefusedRead (rest (p + 2) (drop (p + 2) all)) c q → r ≡ Err (c, q)
        → DefParsed 7 all p before size (expect k (plain 1) (λ t. named first rest) p (drop p all)) st ar r st' ar'
    signature_refused g w = refused_parsed (refused_same g named_bad) w

-- the head by the kinds that were read
module _ (text : List ℕ) {words kept : List ℕ} (p : ℕ) {k : ℕ} (here : KindAt words kept p k) (kind : ℕ) where
  pub head_unkeyed : {f : ℕ × ℕ} → (k ≡ kind → ⊥) → f ≡ (1, p) → Headed (view text words kept) kind p (length kept) (Err f)
  head_unkeyed h same first rest = rw same (unkeyed (view text words kept) kind first p rest (λ e. h (sym (kind_is text p here refl) ∙ e)))

  module _ {l : ℕ} (there : KindAt words kept (p + 1) l) (opens : k ≡ kind) where
    pub head_unnamed : {f : ℕ × ℕ} → (l ≡ Ident → ⊥) → f ≡ (1, p + 1) → Headed (view text words kept) kind p (length kept) (Err f)
    head_unnamed h same first rest =
        rw (same, add-one) (unnamed (view text words kept) kind first p rest (kind_is text p here refl ∙ opens) (λ e. h (sym (kind_is text (suc p) there (add-one p)) ∙ e)))

    pub head_there : l ≡ Ident → Keyed (view text words kept) kind p (length kept)
    head_there e =
        record { keyword = kind_is text p here refl ∙ opens; name = kind_is text (suc p) there (add-one p) ∙ e; inside = omega (arith, there.inside) }

-- ---- lists of arguments

-- the list l of arguments that was read from p on, behind n others, whose records were written from number n on
pub record ListOf (n p size : ℕ) (read : Res (List Argument)) (table : List ℕ) (l : ArgList) (table' : List ℕ) : Type 0 where
  pub args : List Argument
  pub tokens : ℕ
  pub is : read ≡ got args tokens
  pub count : l.arguments ≡ n + length args
  pub ends : l.end ≡ p + tokens
  pub records : table' ≡ put_all argument_width table n (map argument_record args)
  pub further : p < l.end
  pub inside : l.end ≤ size
  pub few : l.arguments + p ≤ n + l.end

pub listed : {n p size : ℕ} (read : Res (List Argument)) {table table' : List ℕ} {l : ArgList} → ListRead n p size read table (Ok l) table' → ListOf n p size read table l table'
listed (got args k) r =
    record {
      args = args;
      tokens = k;
      is = refl;
      count = cc r.is;
      ends = cc r.is;
      records = r.records;
      further = r.within.0;
      inside = r.within.1;
      few = r.within.2;
    }
listed (bad y w) r = cc r.is

pub unlisted : {n p size : ℕ} (read : Res (List Argument)) {table table' : List ℕ} {f : ℕ × ℕ} → ListRead n p size read table (Err f) table' → RefusedRead read f.0 f.1
unlisted (got args k) r = cc r.is
unlisted (bad y w) r = record { why = y; place = w; is = refl; numbered = cc r.is; cursor = cc r.is }

-- ---- events and errors

-- what a form that is a list says
record ListSaid (f : Form) (kind : DefinitionKind) (args : List Argument) : Type 0 where
  says : {n : ℕ} → length args ≡ n → Bodiless f n 0 0 0
  kinded : form_kind f ≡ kind
  same : form_arguments f ≡ args

list_said : (listed : Listed) (args : List Argument) → ListSaid (list_form listed args) (list_definition listed) args
unfolding form_arguments form_count form_statements
list_said Event args =
    record {
      says = λ e. record { none = refl; statements = λ i m. refl; no_macro = refl; inputs = e; outputs = refl; inner = refl; words = refl };
      kinded = refl;
      same = append-nil args;
    }
list_said Error args =
    record {
      says = λ e. record { none = refl; statements = λ i m. refl; no_macro = refl; inputs = e; outputs = refl; inner = refl; words = refl };
      kinded = refl;
      same = append-nil args;
    }

abbrev list_of : Listed → List Argument → ℕ → List Token → Res Form
list_of listed args q ts = got (list_form listed args) 0

module _ (listed : Listed) (all : List Token) (p size : ℕ) where
  pub list_signed : {table table' : List ℕ} {list : ArgList} → ListOf 0 p size (parse_args (one (list_sort listed)) p (drop p all)) table list table'
      → Signed (list_definition listed) p size (list_rest listed p (drop p all)) table (record { end = list.end; inputs = list.arguments; outputs = 0; ty = None }) table'
  list_signed {table} l =
      let said = list_said listed l.args in
      record {
        form = list_form listed l.args;
        tokens = l.tokens;
        is =
            seq_got (parse_args (one (list_sort listed))) (list_of listed) p l.tokens all l.args l.is
            ∙ ap (got (list_form listed l.args)) (add-zero l.tokens);
        ends = l.ends;
        kinded = said.kinded;
        says = said.says (omega (arith, l.count));
        records = l.records ∙ ap (λ args. put_all argument_width table 0 (map argument_record args)) (sym said.same);
        further = l.further;
        inside = l.inside;
        few = omega (arith, l.few);
      }

  pub list_refused : {c q : ℕ} → RefusedRead (parse_args (one (list_sort listed)) p (drop p all)) c q → RefusedRead (list_rest listed p (drop p all)) c q
  list_refused h = refused_same h (seq_bad (parse_args (one (list_sort listed))) (list_of listed) p (drop p all))

-- ---- functions

abbrev function_of : List Argument → ℕ → List Argument → ℕ → List Token → Res Form
function_of inputs type outputs q ts = got (a_function inputs type outputs) 0

-- the token that says a type
abbrev pub type_kind : FunctionType → ℕ
type_kind types.View = View
type_kind types.Pure = Pure
type_kind types.Payable = Payable
type_kind types.NonPayable = NonPayable

abbrev pub type_table : List (ℕ × Step ℕ)
type_table = (View, taken 1) ∷ (Pure, taken 2) ∷ (Payable, taken 3) ∷ (NonPayable, taken 4) ∷ []

module _ (all : List Token) (p : ℕ) where
  -- the type at p, by its kind
  pub type_at : (k : ℕ) → (token_at all p).kind ≡ k
      → function_type p (drop p all) ≡ stepped (choose type_table (refuse (plain 1)) k) p (drop (suc p) all)
  unfolding function_type
  type_at k e = look_table p all (λ t. type_table) (λ t. refuse (plain 1)) k e

  -- no type stands there
  pub type_none_lem : (k : ℕ) → (token_at all p).kind ≡ k → NoneOf type_table k → function_type p (drop p all) ≡ bad (plain 1) p
  type_none_lem k e h = type_at k e ∙ ap (λ s. stepped s p (drop (suc p) all)) (choose_none type_table (refuse (plain 1)) k h)

  module _ (size : ℕ) (inputs : List Argument) where
    abbrev outputting : ℕ → ℕ → List Token → Res Form
    outputting type = seq (parse_args (typed_argument false)) (function_of inputs type)

    abbrev returning : ℕ → ℕ → List Token → Res Form
    returning type = expect Returns (plain 1) (λ r. outputting type)

    pub untyped : {c q : ℕ} → function_type p (drop p all) ≡ bad (plain c) q → outputs_rest inputs p (drop p all) ≡ bad (plain c) q
    untyped {c} {q} t = seq_bad function_type returning p (drop p all) (plain c) q t

    module _ (type : FunctionType) (t : function_type p (drop p all) ≡ got (type_number type) 1) where
      abbrev ty : ℕ
      ty = type_number type

      typed : outputs_rest inputs p (drop p all) ≡ counted 1 (returning ty (p + 1) (drop (p + 1) all))
      typed = seq_got function_type returning p 1 all ty t

      pub unreturning : ((token_at all (p + 1)).kind ≡ Returns → ⊥) → outputs_rest inputs p (drop p all) ≡ bad (plain 1) (p + 1)
      unreturning h =
          typed
          ∙ ap (counted 1)
          (expect_no (p + 1) all Returns (plain 1) (λ r. outputting ty) h)

      module _ (r : (token_at all (p + 1)).kind ≡ Returns) where
        returned : outputs_rest inputs p (drop p all)
            ≡ counted 1 (with_one_more (outputting ty (p + 2) (drop (p + 2) all)))
        returned =
            let two : suc (p + 1) ≡ p + 2 = omega arith in
            typed
            ∙ ap (counted 1)
            (expect_yes (p + 1) all Returns (plain 1) (λ r. outputting ty) r)
            ∙ ap (λ q. counted 1 (with_one_more (outputting ty q (drop q all)))) two

        pub outputs_refused : {c q : ℕ} → RefusedRead (parse_args (typed_argument false) (p + 2) (drop (p + 2) all)) c q → RefusedRead (outputs_rest inputs p (drop p all)) c q
        outputs_refused h =
            refused_same h
            (λ y w e.
            returned
            ∙ ap (λ x. counted 1 (with_one_more x))
            (seq_bad (parse_args (typed_argument false)) (function_of inputs ty) (p + 2) (drop (p + 2) all) y w e))

        pub outputs_read : {n : ℕ} {list : ArgList} {table table' : List ℕ} → ListOf n (p + 2) size (parse_args (typed_argument false) (p + 2) (drop (p + 2) all)) table list table'
            → Outputs inputs n p size (outputs_rest inputs p (drop p all)) table (record { end = list.end; inputs = n; outputs = list.arguments - n; ty = Some type }) table'
        outputs_read l =
            let two : 1 + suc (l.tokens + 0) ≡ 2 + l.tokens = omega arith in
            record {
              outputs = l.args;
              tokens = 2 + l.tokens;
              is =
                  returned
                  ∙ ap (λ x. counted 1 (with_one_more x))
                  (seq_got (parse_args (typed_argument false)) (function_of inputs ty) (p + 2) l.tokens all l.args l.is)
                  ∙ ap (got (a_function inputs ty l.args)) two;
              ends = omega (arith, l.ends);
              before = refl;
              count = omega (arith, l.count);
              records = l.records;
              further = omega (arith, l.further);
              inside = l.inside;
              few = omega (arith, l.few, l.count);
            }

-- a type by the kind that was read
module _ (text : List ℕ) {words kept : List ℕ} (p : ℕ) {k : ℕ} (here : KindAt words kept p k) where
  pub type_there : (t : FunctionType) → k ≡ type_kind t → Typed p (length kept) (function_type p (drop p (view text words kept))) t
  unfolding choose
  type_there types.View e = record { is = type_at (view text words kept) p View (kind_is text p here refl ∙ e); inside = omega (arith, here.inside) }
  type_there types.Pure e = record { is = type_at (view text words kept) p Pure (kind_is text p here refl ∙ e); inside = omega (arith, here.inside) }
  type_there types.Payable e = record { is = type_at (view text words kept) p Payable (kind_is text p here refl ∙ e); inside = omega (arith, here.inside) }
  type_there types.NonPayable e = record { is = type_at (view text words kept) p NonPayable (kind_is text p here refl ∙ e); inside = omega (arith, here.inside) }

  pub type_missing : {f : ℕ × ℕ} → NoneOf type_table k → f ≡ (1, p) → TypeRead p (length kept) (function_type p (drop p (view text words kept))) (Err f)
  type_missing none same = rw same (type_none_lem (view text words kept) p k (kind_is text p here refl) none)

function_says : (inputs outputs : List Argument) (type m n : ℕ) → length inputs ≡ m → length outputs ≡ n → Bodiless (a_function inputs type outputs) m n type 0
unfolding form_count form_statements
function_says inputs outputs type m n e f =
    record { none = refl; statements = λ i a. refl; no_macro = refl; inputs = e; outputs = f; inner = refl; words = refl }

module _ (all : List Token) (p size : ℕ) where
  -- the inputs, and behind them the rest
  module _ {list : ArgList} {table table₁ : List ℕ} (table₂ : List ℕ) (l : ListOf 0 p size (parse_args (typed_argument false) p (drop p all)) table list table₁) where
    pub function_read : (r : Result Signature (ℕ × ℕ)) → OutputsRead l.args list.arguments list.end size (outputs_rest l.args list.end (drop list.end all)) table₁ r table₂
        → SignatureRead kinds.Function p size (function_rest p (drop p all)) table r table₂
    unfolding function_rest form_arguments
    function_read (Ok s) o =
        let there : outputs_rest l.args (p + l.tokens) (drop (p + l.tokens) all) ≡ got (a_function l.args (type_word s.ty) o.outputs) o.tokens = rw (← l.ends) o.is in
        let args : list.arguments ≡ length l.args = omega (arith, l.count) in
        record {
          form = a_function l.args (type_word s.ty) o.outputs;
          tokens = l.tokens + o.tokens;
          is = seq_got (parse_args (typed_argument false)) outputs_rest p l.tokens all l.args l.is ∙ ap (counted l.tokens) there;
          ends = omega (arith, o.ends, l.ends);
          kinded = refl;
          says = function_says l.args o.outputs (type_word s.ty) s.inputs s.outputs (sym args ∙ sym o.before) (sym o.count);
          records =
              o.records
              ∙ ap (λ t. put_all argument_width t list.arguments (map argument_record o.outputs)) l.records
              ∙ ap (λ k. put_all argument_width (put_all argument_width table 0 (map argument_record l.args)) k (map argument_record o.outputs)) (l.count ∙ ap (λ k. 0 + k) (sym (length-map l.args argument_record)))
              ∙ sym (put_all_append argument_width table 0 (map argument_record l.args) (map argument_record o.outputs))
              ∙ ap (put_all argument_width table 0) (sym (map-append argument_record l.args o.outputs))
              ∙ ap (λ os. put_all argument_width table 0 (map argument_record (l.args ++ os))) (sym (append-nil o.outputs));
          further = omega (arith, o.further, l.further);
          inside = o.inside;
          few = omega (arith, o.few, l.few, o.before);
        }
    function_read (Err f) o =
        refused_same o
        (λ y w h.
        seq_got (parse_args (typed_argument false)) outputs_rest p l.tokens all l.args l.is
        ∙ ap (counted l.tokens) (ap (λ k. outputs_rest l.args k (drop k all)) (sym l.ends) ∙ h))

  pub inputs_refused : {c q : ℕ} → RefusedRead (parse_args (typed_argument false) p (drop p all)) c q → RefusedRead (function_rest p (drop p all)) c q
  unfolding function_rest
  inputs_refused h = refused_same h (seq_bad (parse_args (typed_argument false)) outputs_rest p (drop p all))

-- ---- imports

module _ (all : List Token) (p : ℕ) where
  abbrev importing : ℕ → List Token → Res Definition
  importing = expect Str (plain 1) (λ s. finished p (suc p) s an_import)

  pub no_include : ((token_at all p).kind ≡ Include → ⊥) → parse_imports p (drop p all) ≡ bad (plain 1) p
  unfolding parse_imports
  no_include h = expect_no p all Include (plain 1) (λ i. importing) h

  pub no_string : (token_at all p).kind ≡ Include → ((token_at all (suc p)).kind ≡ Str → ⊥) → parse_imports p (drop p all) ≡ bad (plain 1) (suc p)
  unfolding parse_imports
  no_string e h =
      expect_yes p all Include (plain 1) (λ i. importing) e
      ∙ ap with_one_more (expect_no (suc p) all Str (plain 1) (λ s. finished p (suc p) s an_import) h)

  imported : (token_at all p).kind ≡ Include → (token_at all (suc p)).kind ≡ Str
      → parse_imports p (drop p all) ≡ got (record { first = p; end = p + 2; name = p + 1; token = token_at all (p + 1); form = an_import }) 2
  unfolding parse_imports
  imported e h =
      expect_yes p all Include (plain 1) (λ i. importing) e
      ∙ ap with_one_more (expect_yes (suc p) all Str (plain 1) (λ s. finished p (suc p) s an_import) h)
      ∙ rw (add-two, add-one)

  pub import_parsed : {before : Before} {size : ℕ} {st ar : List ℕ} {r : Result DefRead (ℕ × ℕ)} → (token_at all p).kind ≡ Include → (token_at all (suc p)).kind ≡ Str → p + 2 ≤ size
      → r ≡ Ok (record { definition = definition_of before (bare kinds.Import p (p + 1) (p + 2)); arguments = 0 })
      → DefParsed 8 all p before size (parse_imports p (drop p all)) st ar r st ar
  unfolding form_count form_statements form_arguments put_all
  import_parsed e h inside written =
      bodiless_parsed (bare kinds.Import p (p + 1) (p + 2)) (imported e h)
      (record { none = refl; statements = λ i m. refl; no_macro = refl; inputs = refl; outputs = refl; inner = refl; words = refl })
      refl refl refl written refl (omega arith) inside (omega arith)

-- an import by the kinds that were read; the code writes its definition d
module _ (text : List ℕ) {words kept : List ℕ} (p : ℕ) {k : ℕ} (here : KindAt words kept p k) {before : Before} {st ar : List ℕ} where
  pub include_missing : {f : ℕ × ℕ} → (k ≡ Include → ⊥) → f ≡ (1, p)
      → DefParsed 8 (view text words kept) p before (length kept) (parse_imports p (drop p (view text words kept))) st ar (Err f) st ar
  include_missing h same = refused_parsed (refused_plain (no_include (view text words kept) p (λ e. h (sym (kind_is text p here refl) ∙ e)))) (rw same refl)

  module _ {l : ℕ} (there : KindAt words kept (p + 1) l) (opens : k ≡ Include) where
    pub string_missing : {f : ℕ × ℕ} → (l ≡ Str → ⊥) → f ≡ (1, p + 1)
        → DefParsed 8 (view text words kept) p before (length kept) (parse_imports p (drop p (view text words kept))) st ar (Err f) st ar
    string_missing h same =
        refused_parsed
        (refused_plain (no_string (view text words kept) p (kind_is text p here refl ∙ opens) (λ e. h (sym (kind_is text (suc p) there (add-one p)) ∙ e))))
        (rw (same, add-one) refl)

    pub import_there : {f : Found} {d : code.Definition} → l ≡ Str → f ≡ bare kinds.Import p (p + 1) (p + 2) → d ≡ definition_of before f
        → DefParsed 8 (view text words kept) p before (length kept) (parse_imports p (drop p (view text words kept))) st ar (Ok (record { definition = d; arguments = 0 })) st ar
    import_there e is written =
        import_parsed (view text words kept) p (kind_is text p here refl ∙ opens) (kind_is text (suc p) there (add-one p) ∙ e) (omega (arith, there.inside)) (rw (written, is) refl)

-- ---- constants

abbrev pub constant_form : Value → ℕ → List Token → Res Form
constant_form v q ts = got (a_defined_constant v) 0

-- what may stand at q as a constant's value
abbrev pub value_table : ℕ → List (ℕ × Step Value)
value_table q = (FreeStoragePointer, taken (pointer_at q)) ∷ (Literal, taken (literal_at q)) ∷ []

module _ (all : List Token) (p : ℕ) where
  abbrev valued : ℕ → List Token → Res Form
  valued = seq constant_value constant_form

  pub no_assign : ((token_at all p).kind ≡ Assign → ⊥) → constant_rest p (drop p all) ≡ bad (plain 1) p
  unfolding constant_rest
  no_assign h = expect_no p all Assign (plain 1) (λ a. valued) h

  -- behind its `=`, the value by its kind
  pub assigned : (k : ℕ) → (token_at all p).kind ≡ Assign → (token_at all (p + 1)).kind ≡ k
      → constant_rest p (drop p all)
      ≡ with_one_more (joined (stepped (choose (value_table (p + 1)) (refuse (plain 3)) k) (p + 1) (drop (suc (p + 1)) all)) constant_form (p + 1) (drop (p + 1) all))
  unfolding constant_rest constant_value seq
  assigned k e h =
      expect_yes p all Assign (plain 1) (λ a. valued) e
      ∙ ap (λ q. with_one_more (valued q (drop q all))) (sym (add-one p))
      ∙ ap (λ r. with_one_more (joined r constant_form (p + 1) (drop (p + 1) all)))
      (look_table (p + 1) all (λ t. value_table (p + 1)) (λ t. refuse (plain 3)) k h)

  pub no_value : (k : ℕ) → (token_at all p).kind ≡ Assign → (token_at all (p + 1)).kind ≡ k → NoneOf (value_table (p + 1)) k → constant_rest p (drop p all) ≡ bad (plain 3) (p + 1)
  no_value k e h none =
      assigned k e h
      ∙ ap (λ s. with_one_more (joined (stepped s (p + 1) (drop (suc (p + 1)) all)) constant_form (p + 1) (drop (p + 1) all)))
      (choose_none (value_table (p + 1)) (refuse (plain 3)) k none)

-- a value by the kinds that were read
module _ (text : List ℕ) {words kept : List ℕ} (p : ℕ) {k : ℕ} (here : KindAt words kept p k) where
  pub value_unassigned : {f : ℕ × ℕ} → (k ≡ Assign → ⊥) → f ≡ (1, p) → ValueRead p (length kept) (constant_rest p (drop p (view text words kept))) (Err f)
  value_unassigned h same = rw same (no_assign (view text words kept) p (λ e. h (sym (kind_is text p here refl) ∙ e)))

  module _ {l : ℕ} (there : KindAt words kept (p + 1) l) (assign : k ≡ Assign) where
    pub value_pointer : l ≡ FreeStoragePointer → ValueRead p (length kept) (constant_rest p (drop p (view text words kept))) (Ok (constvals.FreeStoragePointer (p + 1)))
    unfolding choose
    value_pointer e =
        record {
          is = assigned (view text words kept) p FreeStoragePointer (kind_is text p here refl ∙ assign) (kind_is text (p + 1) there refl ∙ e);
          inside = omega (arith, there.inside);
          place = omega (arith, there.inside);
        }

    pub value_literal : l ≡ Literal → ValueRead p (length kept) (constant_rest p (drop p (view text words kept))) (Ok (constvals.Literal (p + 1)))
    unfolding choose
    value_literal e =
        record {
          is = assigned (view text words kept) p Literal (kind_is text p here refl ∙ assign) (kind_is text (p + 1) there refl ∙ e);
          inside = omega (arith, there.inside);
          place = omega (arith, there.inside);
        }

    pub value_wrong : {f : ℕ × ℕ} → (l ≡ FreeStoragePointer → ⊥) → (l ≡ Literal → ⊥) → f ≡ (3, p + 1) → ValueRead p (length kept) (constant_rest p (drop p (view text words kept))) (Err f)
    value_wrong g h same =
        rw same (no_value (view text words kept) p l (kind_is text p here refl ∙ assign) (kind_is text (p + 1) there refl) (g, (h, tt)))

constant_says : (v : ConstVal) → Bodiless (a_defined_constant (value_of v)) 0 0 (value_type v) (place_of v)
unfolding form_count form_statements
constant_says v = record { none = refl; statements = λ i m. refl; no_macro = refl; inputs = refl; outputs = refl; inner = refl; words = words v }
  where
    words : (v : ConstVal) → value_words (value_of v) ≡ value_type v ∷ place_of v ∷ []
    words (constvals.Literal q) = refl
    words (constvals.FreeStoragePointer q) = refl

module _ (all : List Token) (first p size : ℕ) (h : Headed all Constant p size (Ok tt)) where
  pub constant_parsed : {before : Before} {st ar : List ℕ} {r : Result DefRead (ℕ × ℕ)} (v : ConstVal) → Valued (p + 2) size (constant_rest (p + 2) (drop (p + 2) all)) v
      → r ≡ Ok (record { definition = definition_of before (constant_found (constant_at first p v)); arguments = 0 })
      → DefParsed 7 all p before size (parse_constant first p (drop p all)) st ar r st ar
  unfolding parse_constant form_arguments put_all
  constant_parsed v g is =
      let four : p + 2 + 2 ≡ p + 4 = omega arith in
      let form = a_defined_constant (value_of v) in
      bodiless_parsed (constant_found (constant_at first p v))
      (named_got all Constant first p constant_rest size h form 2 g.is
      ∙ ap (λ e. got (record { first = first; end = e; name = p + 1; token = token_at all (p + 1); form = form }) 4) four)
      (constant_says v) refl refl refl is refl (omega arith) (omega (arith, g.inside)) (omega arith)

  pub constant_bad : {c q : ℕ} {before : Before} {st ar st' ar' : List ℕ} {r : Result DefRead (ℕ × ℕ)} → constant_rest (p + 2) (drop (p + 2) all) ≡ bad (plain c) q → r ≡ Err (c, q)
      → DefParsed 7 all p before size (parse_constant first p (drop p all)) st ar r st' ar'
  unfolding parse_constant
  constant_bad g w = refused_parsed (refused_plain (named_bad all Constant first p constant_rest size h _ _ g)) w

-- ---- the choice by kind

module _ (all : List Token) (p : ℕ) where
  pub by_kind_lem : (table : List (ℕ × (ℕ → List Token → Res Definition))) (y : Why) (k : ℕ) → (token_at all p).kind ≡ k
      → by_kind table y p (drop p all) ≡ choose table (λ q us. bad y q) k p (drop p all)
  unfolding by_kind
  by_kind_lem table y k e = ap (λ t. choose table (λ q us. bad y q) t.kind p (drop p all)) (token_here p all) ∙ ap (λ x. choose table (λ q us. bad y q) x p (drop p all)) e

  pub by_none : (table : List (ℕ × (ℕ → List Token → Res Definition))) (y : Why) (k : ℕ) → (token_at all p).kind ≡ k → NoneOf table k → by_kind table y p (drop p all) ≡ bad y p
  by_none table y k e h = by_kind_lem table y k e ∙ ap (λ f. f p (drop p all)) (choose_none table (λ q us. bad y q) k h)

  -- at top level
  pub top_at : (rules : Rules) (k : ℕ) → (token_at all p).kind ≡ k → top_level rules p (drop p all) ≡ choose (top_table rules) (λ q us. bad (plain 1) q) k p (drop p all)
  unfolding top_level
  top_at rules k e = by_kind_lem (top_table rules) (plain 1) k e

  pub top_none : (rules : Rules) (k : ℕ) → (token_at all p).kind ≡ k → NoneOf (top_table rules) k → top_level rules p (drop p all) ≡ bad (plain 1) p
  unfolding top_level
  top_none rules k e h = by_none (top_table rules) (plain 1) k e h

  -- behind Define
  pub defined : (rules : Rules) → (token_at all p).kind ≡ Define → top_level rules p (drop p all) ≡ with_one_more (by_kind (kind_table rules p) (plain 2) (p + 1) (drop (p + 1) all))
  unfolding parse_definition choose
  defined rules e =
      top_at rules Define e
      ∙ expect_yes p all Define (plain 1) (λ d. by_kind (kind_table rules p) (plain 2)) e
      ∙ ap (λ q. with_one_more (by_kind (kind_table rules p) (plain 2) q (drop q all))) (sym (add-one p))

-- by the kind that was read
module _ (source : Source) (p : ℕ) {k : ℕ} (here : KindAt source.tokens.now source.kept.now p k) (rules : Rules) where
  pub chosen : (first n : ℕ) → k ≡ n → by_kind (kind_table rules first) (plain 2) p (all_from source p) ≡ choose (kind_table rules first) (λ q us. bad (plain 2) q) n p (all_from source p)
  chosen first n e = by_kind_lem (all source) p (kind_table rules first) (plain 2) n (kind_is source.text.now p here refl ∙ e)

  pub none_chosen : (first : ℕ) {before : Before} {st ar : List ℕ} {f : ℕ × ℕ} → NoneOf (kind_table rules first) k → f ≡ (2, p)
      → DefParsed 7 (all source) p before (count source) (by_kind (kind_table rules first) (plain 2) p (all_from source p)) st ar (Err f) st ar
  none_chosen first none same =
      refused_parsed (refused_plain (by_none (all source) p (kind_table rules first) (plain 2) k (kind_is source.text.now p here refl) none)) (rw same refl)

  pub top_chosen : (n : ℕ) → k ≡ n → top_level rules p (all_from source p) ≡ choose (top_table rules) (λ q us. bad (plain 1) q) n p (all_from source p)
  top_chosen n e = top_at (all source) p rules n (kind_is source.text.now p here refl ∙ e)

  module _ {before : Before} {st ar : List ℕ} where
    pub top_defined : {r : Result DefRead (ℕ × ℕ)} {st' ar' : List ℕ} → k ≡ Define
        → DefParsed 7 (all source) (p + 1) before (count source) (by_kind (kind_table rules p) (plain 2) (p + 1) (all_from source (p + 1))) st ar r st' ar'
        → DefParsed 8 (all source) p before (count source) (top_level rules p (all_from source p)) st ar r st' ar'
    top_defined e h = rw (defined (all source) p rules (kind_is source.text.now p here refl ∙ e)) (one_more _ (add-one p) h)

    pub top_pound : {f : ℕ × ℕ} → k ≡ Pound → f ≡ (21, p) → DefParsed 8 (all source) p before (count source) (top_level rules p (all_from source p)) st ar (Err f) st ar
    unfolding choose
    top_pound e same = refused_parsed (refused_plain (top_chosen Pound e)) (rw same refl)

    pub top_wrong : {f : ℕ × ℕ} → NoneOf (top_table rules) k → f ≡ (1, p) → DefParsed 8 (all source) p before (count source) (top_level rules p (all_from source p)) st ar (Err f) st ar
    top_wrong none same = refused_parsed (refused_plain (top_none (all source) p rules k (kind_is source.text.now p here refl) none)) (rw same refl)

-- ---- its record

-- the words of its record are those that the grammar says
record_is : (pos : Positions) (before : Before) (d : Definition) → definition_words (code_definition before d) (pos.start d.first) (pos.end (d.end - 1)) ≡ definition_record pos before.statements before.arguments d
unfolding definition_record
record_is pos before d = go d.form refl
  where
    go : (f : Form) → d.form ≡ f → definition_words (code_definition before d) (pos.start d.first) (pos.end (d.end - 1)) ≡ definition_record pos before.statements before.arguments d
    go an_import e = rw e
    go (a_function inputs type outputs) e = rw e
    go (an_event args) e = rw e
    go (a_defined_constant (literal_at q)) e = rw e
    go (a_defined_constant (pointer_at q)) e = rw e
    go (an_error args) e = rw e
    go (a_macro the_macro args takes returns r) e = rw e
    go (a_macro the_fn args takes returns r) e = rw e
    go (a_macro the_test args takes returns r) e = rw e
    go (a_table jump_table es) e = rw e
    go (a_table packed_table es) e = rw e
    go (a_table code_table es) e = rw e

module _ {all : List Token} {pos : Positions} {p : ℕ} {before : Before} {size : ℕ} {read : Res Definition} {de st ar de' st' ar' : List ℕ} where
  -- it was read, and its record, with the bytes of its first and last token, is the first of the lent rest
  pub added : (x : DefRead) {start end : ℕ} → ((y : Definition) (k : ℕ) → read ≡ got y k → y.first ≡ p) → DefParsed 8 all p before size read st ar (Ok x) st' ar'
      → start ≡ pos.start p → end ≡ pos.end (x.definition.end - 1) → de' ≡ put definition_width de 0 (definition_words x.definition start end)
      → DefAdded all pos p before size read 0 0 0 de st ar (Ok x) de' st' ar'
  unfolding put_all
  added x {end = end} begins h starts ends written = go read refl
    where
      go : (z : Res Definition) → read ≡ z → DefAdded all pos p before size read 0 0 0 de st ar (Ok x) de' st' ar'
      go (got y k) e =
          let h' = rw e at h in
          let same : x.definition ≡ code_definition before y = cc h'.is in
          rw e
          (record {
            is = h'.is;
            definitions_hold =
                written
                ∙ ap (λ (s : ℕ). put definition_width de 0 (definition_words x.definition s end)) (starts ∙ ap (λ (q : ℕ). pos.start q) (sym (begins y k e)))
                ∙ ap (λ (e : ℕ). put definition_width de 0 (definition_words x.definition (pos.start y.first) e)) ends
                ∙ ap (λ (d : code.Definition). put definition_width de 0 (definition_words d (pos.start y.first) (pos.end (d.end - 1)))) same
                ∙ ap (put definition_width de 0) (record_is pos before y);
            statements_hold = h'.statements_hold;
            arguments_hold = h'.arguments_hold;
            stands = h'.stands;
            within = h'.within;
          })
      go (bad y w) e = absurd (let h' = rw e at h in let z : ◌≡◌ {A = ℕ} 0 1 = cc h'.is in omega arith)
