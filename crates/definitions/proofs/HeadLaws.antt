-- A definition's promise, from the place behind its name back to its first token. Assumes nothing.
use Prim.Native.Nat.{ℕ, suc}
use native.Mathlib.Omega.{arith}
use mathlib.Core.Path.{◌≡◌, refl}
use mathlib.Core.Bool.{Bool, true, false}
use mathlib.Core.List.{List}
use lib.ListN.{drop}
use Rattle.tokens.specs.Token.{Token, token_at}
use Rattle.tokens.specs.Kind.{Ident}
use Rattle.grammar.specs.Result.{plain, Res, got, bad, with_one_more, seq}
use Rattle.grammar.specs.Written.{RefusedRead}
use Rattle.grammar.specs.FileReading.{the_macro, the_fn, the_test, jump_table, packed_table, code_table, Form, an_import, a_function, an_event, a_defined_constant, an_error, a_macro, a_table, Definition, is_macro}
use Rattle.std.specs.Prelude.{Result, Ok, Err}
use Rattle.grammar.specs.FileReader.{named}
use Rattle.lists.specs.declared.before.Before.{Before}
use Rattle.definitions.specs.declared.record.DefRead.{DefRead}
use Rattle.definitions.specs.Answers.{definition_number, form_kind, is_named, Long, DefWithin, DefParsed}
use Rattle.definitions.specs.Behind.{behind_name}
use Rattle.lists.proofs.At.{expect_yes, expect_no}

-- what is read behind the name n at p
abbrev after_name : ℕ → ℕ → (ℕ → List Token → Res Form) → Token → ℕ → List Token → Res Definition
after_name first p rest n = seq rest (λ f q ts. got (record { first = first; end = q; name = p; token = n; form = f }) 0)

module _ (first p : ℕ) (rest : ℕ → List Token → Res Form) (all : List Token) where
  pub name_missing : ((token_at all (suc p)).kind ≡ Ident → ⊥) → named first rest (suc p) (drop (suc p) all) ≡ bad (plain 1) (suc p)
  unfolding named
  name_missing h = expect_no (suc p) all Ident (plain 1) (after_name first (suc p) rest) h

  name_there : (token_at all (suc p)).kind ≡ Ident → named first rest (suc p) (drop (suc p) all) ≡ with_one_more (behind_name first (suc p) all rest (suc (suc p)))
  unfolding named behind_name
  name_there h = expect_yes (suc p) all Ident (plain 1) (after_name first (suc p) rest) h

-- ---- what a reading is, as the code answers it

-- a refused one promises no more
pub refused_parsed : {least : ℕ} {all : List Token} {p : ℕ} {before : Before} {size c q : ℕ} {read : Res Definition} {st ar st' ar' : List ℕ} {r : Result DefRead (ℕ × ℕ)} → RefusedRead read c q → r ≡ Err (c, q)
    → DefParsed least all p before size read st ar r st' ar'
refused_parsed {c = c} {q = q} h e =
    rw (h.is, e, h.numbered, h.cursor) (record { is = refl; statements_hold = tt; arguments_hold = tt; stands = tt; within = tt })

-- a macro, fn or test is told by its number
pub named_is : (f : Form) → is_named (definition_number (form_kind f)) ≡ is_macro f
unfolding is_named
named_is an_import = refl
named_is (a_function inputs type outputs) = refl
named_is (an_event args) = refl
named_is (a_defined_constant v) = refl
named_is (an_error args) = refl
named_is (a_macro the_macro args takes returns r) = refl
named_is (a_macro the_fn args takes returns r) = refl
named_is (a_macro the_test args takes returns r) = refl
named_is (a_table jump_table es) = refl
named_is (a_table packed_table es) = refl
named_is (a_table code_table es) = refl

-- a definition read from the place behind p on, from p on: it is one token longer
pub one_more : {least : ℕ} {all : List Token} {p q : ℕ} {before : Before} {size : ℕ} {st ar st' ar' : List ℕ} (x : Res Definition) {r : Result DefRead (ℕ × ℕ)}
    → q ≡ suc p
    → DefParsed least all q before size x st ar r st' ar'
    → DefParsed (suc least) all p before size (with_one_more x) st ar r st' ar'
one_more {least} {p = p} {q} {size = size} (got d k) {r} e h =
    record {
      is = h.is;
      statements_hold = h.statements_hold;
      arguments_hold = h.arguments_hold;
      stands = (h.stands.0, omega (arith, h.stands.1));
      within = nearer r h.within;
    }
  where
    longer : (b : Bool) (name end : ℕ) → Long least b name q end → Long (suc least) b name p end
    longer true name end h = (omega arith, h.1)
    longer false name end h = tt

    nearer : (r : Result DefRead (ℕ × ℕ)) → DefWithin least q size r → DefWithin (suc least) p size r
    nearer (Ok x) w =
        (omega arith, w.1, omega arith, omega arith, longer (is_named (definition_number x.definition.kind)) x.definition.name x.definition.end w.4)
    nearer (Err f) w = tt
one_more (bad y w) e h = record { is = h.is; statements_hold = tt; arguments_hold = tt; stands = tt; within = rw h.is tt }

-- the name stands there, and what stands behind it is read; the code writes the places its own way
pub name_read : {all : List Token} {before : Before} {size : ℕ} {st ar st' ar' : List ℕ} (first p : ℕ) (rest : ℕ → List Token → Res Form) {m q : ℕ} {r : Result DefRead (ℕ × ℕ)}
    → (token_at all (suc p)).kind ≡ Ident
    → m ≡ suc p
    → q ≡ suc (suc p)
    → DefParsed 5 all q before size (behind_name first m all rest q) st ar r st' ar'
    → DefParsed 7 all p before size (with_one_more (named first rest (suc p) (drop (suc p) all))) st ar r st' ar'
name_read {all} first p rest e m-is q-is h = rw (name_there first p rest all e) (one_more _ refl (one_more _ refl (rw (m-is, q-is) at h)))
