-- That any two results meeting a promise are equal, for each form of promise in this crate. Assumes nothing.
use Prim.Native.Nat.{ℕ}
use mathlib.Core.Path.{◌≡◌, refl, sym, ap, ◌∙◌}
use mathlib.Core.Bool.{cond}
use mathlib.Core.List.{List}
use lib.Dec.{eqb}
use Rattle.tokens.specs.Number as number
use Rattle.tokens.specs.Number.{type_none, type_address, type_bool, type_string, type_bytes, type_uint, type_int}
use Rattle.tokens.specs.Name.{type_numbers}
use Rattle.tokens.specs.declared.name.NameType.{NameType}
use Rattle.tokens.specs.declared.name.NameType.TheVariants as types
use Rattle.std.specs.Prelude.{Option, Some, None, Result, Ok, Err}
use Rattle.tokens.specs.declared.door.Unready.{Unready}
use Rattle.tokens.specs.declared.door.Unready.TheVariants.{NotWellFormed, KeptTooShort, StartOutside}
use Rattle.tokens.specs.Place.{KindAt}
use Rattle.tokens.specs.Refusal.{wrong_number, wrong_of, wrong_again}
use Rattle.tokens.specs.declared.refusal.Wrong.{Wrong}
use Rattle.tokens.specs.Door.{values, Prepared}

-- a promise that says what the answer is, or what a lent table holds afterwards: `r ≡ x`
pub one_answer : {A : Type 0} {x a b : A} → a ≡ x → b ≡ x → a ≡ b
one_answer p q = p ∙ sym q

-- the promise of `kind_at`
pub one_kind : {words kept : List ℕ} {p a b : ℕ} → KindAt words kept p a → KindAt words kept p b → a ≡ b
one_kind m n = one_answer m.is n.is

-- the promises of `type_of` and `type_told`: no two types have the same number and size
pub one_type : (a b : Option NameType) {x : ℕ × ℕ} → type_numbers a ≡ x → type_numbers b ≡ x → a ≡ b
one_type a b p q = sym (again a) ∙ ap told (one_answer p q) ∙ again b
  where
    told : ℕ × ℕ → Option NameType
    told x =
        cond (eqb x.0 type_none) None
        (Some
        (cond (eqb x.0 type_address) types.Address
        (cond (eqb x.0 type_bool) types.Bool
        (cond (eqb x.0 type_string) types.String
        (cond (eqb x.0 type_bytes) types.Bytes (cond (eqb x.0 type_uint) (types.Uint x.1) (cond (eqb x.0 type_int) (types.Int x.1) (types.BytesN x.1))))))))

    again : (a : Option NameType) → told (type_numbers a) ≡ a
    again None = refl
    again (Some types.Address) = refl
    again (Some types.Bool) = refl
    again (Some types.String) = refl
    again (Some types.Bytes) = refl
    again (Some (types.Uint bits)) = refl
    again (Some (types.Int bits)) = refl
    again (Some (types.BytesN bytes)) = refl

-- the promise of `Refusal::wrong`: no two kinds of wrong have the same number
pub one_wrong : (a b : Wrong) {n : ℕ} → wrong_number a ≡ n → wrong_number b ≡ n → a ≡ b
one_wrong a b p q = sym (wrong_again a) ∙ ap wrong_of (one_answer p q) ∙ wrong_again b

-- no two answers of the door have the same number and cursor
pub one_door : (a b : Result ℕ Unready) → values a ≡ values b → a ≡ b
one_door a b e = sym (again a) ∙ ap told e ∙ again b
  where
    told : ℕ × ℕ → Result ℕ Unready
    told d = cond (eqb d.0 0) (Ok d.1) (Err (cond (eqb d.0 number.NotWellFormed) (NotWellFormed d.1) (cond (eqb d.0 number.KeptTooShort) (KeptTooShort d.1) (StartOutside d.1))))

    again : (d : Result ℕ Unready) → told (values d) ≡ d
    again (Err (NotWellFormed at)) = refl
    again (Err (KeptTooShort count)) = refl
    again (Err (StartOutside at)) = refl
    again (Ok count) = refl

-- the promise of `prepare`: its answer and the kept list
pub one_preparation : {text words kept : List ℕ} {start : ℕ} {a b : Result ℕ Unready} {k l : List ℕ} → Prepared text words start kept a k → Prepared text words start kept b l → (a ≡ b) × (k ≡ l)
one_preparation {a = a} {b = b} m n = (one_door a b (one_answer m.answer n.answer), one_answer m.list n.list)
