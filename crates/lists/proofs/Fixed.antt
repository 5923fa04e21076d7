-- That any two answers meeting a promise are equal, where the promise is of numbers. Assumes nothing.
use Prim.Native.Nat.{ℕ, ◌≤◌, ◌<◌}
use native.Mathlib.Omega.{arith}
use mathlib.Core.Path.{◌≡◌, refl, sym, ap, ◌∙◌}
use mathlib.Core.Bool.{Bool, true, false, cond}
use borrow.Author.Tests.{ne_eqb}
use lib.Dec.{eqb}
use Rattle.std.specs.Prelude.{Option, Some, None, Result, Ok, Err, IfOk, IfSome}
use Rattle.std.specs.Int.{from_bool}
use Rattle.grammar.specs.Reading.{NONE}
use Rattle.grammar.specs.Reading as reading
use Rattle.grammar.specs.Result.{Res}
use Rattle.lists.specs.declared.argument.Form.{Form}
use Rattle.lists.specs.declared.argument.Form.TheVariants.{Name, Str, Literal, CallLiteral, CallName, CallAngled}
use Rattle.lists.specs.declared.argument.Location.{Location}
use Rattle.lists.specs.declared.argument.Location.TheVariants.{Calldata, Memory, Storage}
use Rattle.lists.specs.declared.argument.Argument.{Argument}
use Rattle.lists.specs.Answers.{form_number, location_word, place_word, reading_of, answered, Told, ArgRead}

-- the code's argument, read off the grammar's
abbrev form_of : ℕ → Form
form_of n = cond (eqb n 1) Name (cond (eqb n 2) Str (cond (eqb n 3) Literal (cond (eqb n 4) CallLiteral (cond (eqb n 5) CallName CallAngled))))

abbrev place_of : ℕ → Option ℕ
place_of p = cond (eqb p NONE) None (Some p)

abbrev location_of : ℕ → Option Location
location_of n = cond (eqb n 0) None (Some (cond (eqb n 1) Calldata (cond (eqb n 2) Memory Storage)))

abbrev argument_of : reading.Argument → Argument
argument_of a =
    record {
      form = form_of a.form;
      ty = place_of a.type;
      name = place_of a.name;
      indexed = eqb a.indexed 1;
      location = location_of a.location;
      first = a.first;
      end = a.end;
    }

-- and so nothing of it is lost
form_again : (f : Form) → form_of (form_number f) ≡ f
form_again Name = refl
form_again Str = refl
form_again Literal = refl
form_again CallLiteral = refl
form_again CallName = refl
form_again CallAngled = refl

place_again : (o : Option ℕ) {end : ℕ} → IfSome o (λ p. p < end) → end ≤ NONE → place_of (place_word o) ≡ o
place_again None h low = refl
place_again (Some p) {end} h low = rw (ne_eqb p NONE (λ e. omega (arith, h, low, e)))

bool_again : (b : Bool) → eqb (from_bool b) 1 ≡ b
bool_again true = refl
bool_again false = refl

location_again : (o : Option Location) → location_of (location_word o) ≡ o
location_again None = refl
location_again (Some Calldata) = refl
location_again (Some Memory) = refl
location_again (Some Storage) = refl

abbrev read_back : Result (reading.Argument × ℕ) (ℕ × ℕ) → Result Argument (ℕ × ℕ)
read_back (Ok x) = Ok (argument_of x.0)
read_back (Err f) = Err f

again : {p size : ℕ} {x : Res reading.Argument} (r : Result Argument (ℕ × ℕ)) → size ≤ NONE → ArgRead p size x r → IfOk r Told → read_back (answered (λ a. (reading_of a, a.end)) r) ≡ r
again (Ok a) low m told =
    let end : a.end ≤ NONE = omega (arith, m.within, low) in
    ap Ok (λ i. record {
      form = form_again a.form i;
      ty = place_again a.ty told.0 end i;
      name = place_again a.name told.1 end i;
      indexed = bool_again a.indexed i;
      location = location_again a.location i;
      first = a.first;
      end = a.end;
    })
again (Err f) low m told = refl

-- the promise of `one_argument`: the answer itself, of a list whose places are all below the number for none
pub one_read : {p size : ℕ} {x : Res reading.Argument} (r r' : Result Argument (ℕ × ℕ)) → size ≤ NONE → ArgRead p size x r → IfOk r Told → ArgRead p size x r' → IfOk r' Told → r ≡ r'
one_read r r' low m told n told' = sym (again r low m told) ∙ ap read_back (m.is ∙ sym n.is) ∙ again r' low n told'
