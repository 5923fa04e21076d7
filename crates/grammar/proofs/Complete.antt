-- What follows the grammar is read: a derivation, before any tokens that may stand behind it, gives the reader's value.
use Prim.Native.Nat.{ℕ, suc, ◌+◌, ◌<◌}
use native.Mathlib.Nat.{add-zero}
use mathlib.Core.Path.{◌≡◌, refl, sym, ◌∙◌, ap}
use mathlib.Core.Bool.{Bool, true, false, not, ◌||◌, or-true, false≢true}
use mathlib.Core.List.{List, [], ◌∷◌, ◌++◌, append_assoc, flatten}
use lib.ListN.{length, length-append}
use lib.Seq.{drop-append_seam}
use lib.Dec.{eqb}
use borrow.Author.Tests.{eqb-true}
use Rattle.tokens.specs.Token.{Token, token_at, eof_token}
use Rattle.tokens.specs.Kind.{CloseParen, CloseBrace, OpenParen, Comma, Label}
use Rattle.grammar.specs.Reading.{Argument, Entry, Simple, Group, Reading, arguments}
use Rattle.grammar.specs.Rules.{Rules}
use Rattle.grammar.specs.Grammar.{Many, none, more, Separated, alone, comma, counts, allowed, Closed, closed, CallArgument, call_literal, call_name, call_calldata, call_angled, calldata, memory, storage, NameArgument, bare, placed, BuiltinArgument, builtin_string, builtin_literal, builtin_name, Item, literal, opcode, push, label_call, invocation, constant, argument_call, builtin, forget, Items, LabelGroup, group, remember, Body, body}
use Rattle.grammar.specs.Result.{Why, Res, got, with_one_more, counted, joined, consed, look, choose, expect, seq, many}
use Rattle.grammar.specs.Reader.{separated, ends_list, entries, closed_list, call_argument, name_step, untyped_step, name_argument, builtin_argument, operand_step, ident_step, item, ends_items, items, group_rest, label_group, ends_groups, groups, body_from}
use Rattle.grammar.proofs.Holds.{Holds, NoneOrOne, many_stop, as_seq}
use Rattle.grammar.proofs.Sound.{Plain, plain_number, some_entry, separated_holds, call_holds, call_some, builtin_holds, builtin_some, item_holds, item_some, group_holds, group_some}

-- a stretch begins with a token that does not stop the loop and may follow a unit
pub data Opens (stop follow : Token → Bool) : List Token → Type 0 where
  opening : (t : Token) (ts : List Token) → stop t ≡ false → follow t ≡ true → Opens stop follow (t ∷ ts)

pub opens_append : {stop follow : Token → Bool} {xs : List Token} (ys : List Token) → Opens stop follow xs → Opens stop follow (xs ++ ys)
opens_append ys (opening t ts h f) = opening t (ts ++ ys) h f

pub opens_first : {stop follow : Token → Bool} {xs : List Token} (ys : List Token) → Opens stop follow xs → follow (token_at (xs ++ ys) 0) ≡ true
opens_first ys (opening t ts h f) = f

pub seq_complete : {A B : Type 0} (u : ℕ → List Token → Res A) (f : A → ℕ → List Token → Res B) (p n : ℕ) (xs ys : List Token) (a : A) (b : B)
    → u p (xs ++ ys) ≡ got a (length xs)
    → f a (p + length xs) ys ≡ got b n
    → seq u f p (xs ++ ys) ≡ got b (length xs + n)
unfolding seq
seq_complete u f p n xs ys a b e g =
    ap (λ r. joined r f p (xs ++ ys)) e ∙ ap (λ us. counted (length xs) (f a (p + length xs) us)) (drop-append_seam xs ys) ∙ ap (counted (length xs)) g

-- what may follow a unit, follows also where units stand before it
module _ {σ A : Type 0} (after : σ → A → σ) (U : σ → ℕ → List Token → A → Type 0) (stop follow : Token → Bool)
    (opens : (s : σ) (p : ℕ) (xs : List Token) (a : A) → U s p xs a → Opens stop follow xs) where
  pub many_first : (s : σ) (p : ℕ) (xs : List Token) (rs : List A) (ys : List Token) → Many after U s p xs rs → follow (token_at ys 0) ≡ true → follow (token_at (xs ++ ys) 0) ≡ true
  many_first s p xs rs ys none f = f
  many_first s p xs rs ys (more {xs = us} {ys = vs} {a = a} u m) f = rw (append_assoc us vs ys) (opens_first (vs ++ ys) (opens s p us a u))

-- a reader, and a value made of its value and the place behind it
pub then_complete : {A B : Type 0} (u : ℕ → List Token → Res A) (make : ℕ → A → B) (p : ℕ) (xs ys : List Token) (a : A)
    → u p (xs ++ ys) ≡ got a (length xs)
    → seq u (λ x q ts. got (make q x) 0) p (xs ++ ys) ≡ got (make (p + length xs) a) (length xs)
then_complete u make p xs ys a e =
    seq_complete u (λ x q ts. got (make q x) 0) p 0 xs ys a (make (p + length xs) a) e refl ∙ ap (got (make (p + length xs) a)) (add-zero (length xs))

module _ {σ A : Type 0} (stop : Token → Bool) (after : σ → A → σ) (unit : σ → ℕ → List Token → Res A) (U : σ → ℕ → List Token → A → Type 0)
    {T : Why → Token → Type 0} (reads : (s : σ) (p : ℕ) (ts : List Token) → Holds T (U s p) (NoneOrOne (U s p)) p (unit s p) ts (unit s p ts))
    (some-tokens : (s : σ) (p : ℕ) (xs : List Token) (a : A) → U s p xs a → 0 < length xs)
    (follow : Token → Bool)
    (opens : (s : σ) (p : ℕ) (xs : List Token) (a : A) → U s p xs a → Opens stop follow xs) where
  one_unit : (s : σ) (p : ℕ) (xs rest : List Token) (a : A) (rs : List A) (n : ℕ)
      → Opens stop follow xs
      → unit s p (xs ++ rest) ≡ got a (length xs)
      → many stop after unit (after s a) 0 (p + length xs) rest ≡ got rs n
      → many stop after unit s 0 p (xs ++ rest) ≡ got (a ∷ rs) (length xs + n)
  one_unit s p xs rest a rs n (opening t ts h f) e g =
      as_seq stop after unit U reads some-tokens s p t (ts ++ rest) h
      ∙ seq_complete (unit s) (λ b q us. consed b (many stop after unit (after s b) 0 q us)) p n (t ∷ ts) rest a (a ∷ rs) e (ap (consed a) g)

  module _ (complete : (s : σ) (p : ℕ) (xs : List Token) (a : A) → U s p xs a → (ys : List Token) → follow (token_at ys 0) ≡ true → unit s p (xs ++ ys) ≡ got a (length xs))
      (stops-follow : (t : Token) → stop t ≡ true → follow t ≡ true) (not_eof : stop eof_token ≡ false) where
    pub many_complete : (s : σ) (p : ℕ) (xs : List Token) (rs : List A) → Many after U s p xs rs → (ys : List Token) → stop (token_at ys 0) ≡ true
        → many stop after unit s 0 p (xs ++ ys) ≡ got rs (length xs)
    many_complete s p xs rs none [] h = absurd (false≢true (sym not_eof ∙ h))
    many_complete s p xs rs none (t ∷ ys) h = many_stop stop after unit s p t ys h
    many_complete s p xs rs (more {xs = us} {ys = vs} {a = a} {rs = qs} u m) ys h =
        rw (append_assoc us vs ys, length-append us vs)
        (one_unit s p us (vs ++ ys) a qs (length vs) (opens s p us a u)
        (complete s p us a u (vs ++ ys) (many_first after U stop follow opens (after s a) (p + length us) vs qs ys m (stops-follow (token_at ys 0) h)))
        (many_complete (after s a) (p + length us) vs qs m ys h))

-- tokens that may follow an argument or an item: neither Comma nor `(`
abbrev pub calm : Token → Bool
calm t = not (eqb t.kind Comma || eqb t.kind OpenParen)

pub calm_comma : (t : Token) → calm t ≡ true → eqb t.kind Comma ≡ false
calm_comma t = go (eqb t.kind Comma)
  where
    go : (b : Bool) → not (b || eqb t.kind OpenParen) ≡ true → b ≡ false
    go false h = refl
    go true h = cc

pub calm_open : (t : Token) → calm t ≡ true → eqb t.kind OpenParen ≡ false
calm_open t = go (eqb t.kind Comma) (eqb t.kind OpenParen)
  where
    go : (b c : Bool) → not (b || c) ≡ true → c ≡ false
    go false false h = refl
    go false true h = cc
    go true false h = refl
    go true true h = cc

pub calm_close : (t : Token) → ends_list t ≡ true → calm t ≡ true
calm_close t h = rw (eqb-true t.kind CloseParen h)

pub calm_ends : (t : Token) → ends_items t ≡ true → calm t ≡ true
calm_ends t h = go (eqb t.kind Label) (eqb t.kind CloseBrace) (λ e. eqb-true t.kind Label e) (λ e. eqb-true t.kind CloseBrace e) h
  where
    go : (b c : Bool) → (b ≡ true → t.kind ≡ Label) → (c ≡ true → t.kind ≡ CloseBrace) → (b || c) ≡ true → calm t ≡ true
    go true c f g e = rw (f refl)
    go false true f g e = rw (g refl)
    go false false f g e = cc

-- lists: which tokens may follow an argument, besides a Comma, is the list's own affair
module _ (W : ℕ → ℕ → List Token → Argument → Type 0) (read : ℕ → ℕ → List Token → Res Argument)
    {T : Why → Token → Type 0} (reads : (n p : ℕ) (ts : List Token) → Holds T (W n p) (NoneOrOne (W n p)) p (read n p) ts (read n p ts))
    (some-tokens : (n p : ℕ) (xs : List Token) (a : Argument) → W n p xs a → 0 < length xs)
    (follow : Token → Bool)
    (complete : (n p : ℕ) (xs : List Token) (a : Argument) → W n p xs a → (ys : List Token) → (eqb (token_at ys 0).kind Comma || follow (token_at ys 0)) ≡ true → read n p (xs ++ ys) ≡ got a (length xs))
    (opens : (n p : ℕ) (xs : List Token) (a : Argument) → W n p xs a → Opens ends_list follow xs)
    (no_comma_lem : (t : Token) → follow t ≡ true → eqb t.kind Comma ≡ false)
    (close_follows : (t : Token) → ends_list t ≡ true → follow t ≡ true) where
  entry_opens : (n p : ℕ) (xs : List Token) (e : Entry) → Separated (W n) p xs e → Opens ends_list follow xs
  entry_opens n p xs e (alone {a = a} u) = opens n p xs a u
  entry_opens n p xs e (comma {xs = ys} {a = a} c u h) = opens_append (c ∷ []) (opens n p ys a u)

  entry_complete : (n p : ℕ) (xs : List Token) (e : Entry) → Separated (W n) p xs e → (ys : List Token) → follow (token_at ys 0) ≡ true
      → separated (read n) p (xs ++ ys) ≡ got e (length xs)
  unfolding separated look
  entry_complete n p xs e (alone {a = a} u) ys h =
      seq_complete (read n) _ p 0 xs ys a e (complete n p xs a u ys (rw h (or-true (eqb (token_at ys 0).kind Comma)))) (rw (no_comma_lem (token_at ys 0) h))
      ∙ ap (got e) (add-zero (length xs))
  entry_complete n p xs e (comma {xs = us} {a = a} c u k) ys h =
      rw (append_assoc us (c ∷ []) ys, length-append us (c ∷ []))
      (seq_complete (read n) _ p 1 us (c ∷ ys) a e (complete n p us a u (c ∷ ys) (rw k)) (rw k))

  pub closed_complete : (p : ℕ) (xs : List Token) (args : List Argument) → Closed W p xs args → (ys : List Token)
      → closed_list read p (xs ++ ys) ≡ got args (length xs)
  unfolding closed_list entries look
  closed_complete p xs args (closed {xs = us} {es = es} c m k) ys =
      rw (append_assoc us (c ∷ []) ys, length-append us (c ∷ []))
      (seq_complete (entries read) (λ fs. expect CloseParen _ (λ d q ts. got (arguments fs) 0)) p 1 us (c ∷ ys) es args
      (many_complete ends_list counts (λ n. separated (read n)) (λ n. Separated (W n)) (λ n. separated_holds (read n) (reads n)) (some_entry W read reads some-tokens)
      follow entry_opens entry_complete close_follows refl 0 p us es m (c ∷ ys) (rw k))
      (rw k))

call_complete : (n p : ℕ) (xs : List Token) (a : Argument) → CallArgument n p xs a → (ys : List Token) → call_argument n p (xs ++ ys) ≡ got a (length xs)
unfolding call_argument look choose
call_complete n p xs a (call_literal t e) ys = rw e
call_complete n p xs a (call_name t e) ys = rw e
call_complete n p xs a (call_calldata t e) ys = rw e
call_complete n p xs a (call_angled l i r e f g) ys = rw e (rw f (rw g))

call_opens : (n p : ℕ) (xs : List Token) (a : Argument) → CallArgument n p xs a → Opens ends_list calm xs
call_opens n p xs a (call_literal t e) = opening t [] (rw e) (rw e)
call_opens n p xs a (call_name t e) = opening t [] (rw e) (rw e)
call_opens n p xs a (call_calldata t e) = opening t [] (rw e) (rw e)
call_opens n p xs a (call_angled l i r e f g) = opening l (i ∷ r ∷ []) (rw e) (rw e)

pub name_complete : (n p : ℕ) (xs : List Token) (a : Argument) → NameArgument n p xs a → (ys : List Token) → name_argument n p (xs ++ ys) ≡ got a (length xs)
unfolding name_argument untyped_step name_step allowed look choose
name_complete n p xs a (bare t e w) ys = rw e (rw w)
name_complete n p xs a (placed k t (calldata c) e w) ys = rw c (rw e (rw w))
name_complete n p xs a (placed k t (memory c) e w) ys = rw c (rw e (rw w))
name_complete n p xs a (placed k t (storage c) e w) ys = rw c (rw e (rw w))

-- a name begins with no token that a builtin list reads otherwise
name_in_builtin : (n p : ℕ) (xs : List Token) (a : Argument) → NameArgument n p xs a → (ys : List Token) → builtin_argument n p (xs ++ ys) ≡ name_argument n p (xs ++ ys)
unfolding builtin_argument name_argument look choose
name_in_builtin n p xs a (bare t e w) ys = rw e
name_in_builtin n p xs a (placed k t (calldata c) e w) ys = rw c
name_in_builtin n p xs a (placed k t (memory c) e w) ys = rw c
name_in_builtin n p xs a (placed k t (storage c) e w) ys = rw c

pub name_opens : (n p : ℕ) (xs : List Token) (a : Argument) → NameArgument n p xs a → Opens ends_list calm xs
name_opens n p xs a (bare t e w) = opening t [] (rw e) (rw e)
name_opens n p xs a (placed k t (calldata c) e w) = opening k (t ∷ []) (rw c) (rw c)
name_opens n p xs a (placed k t (memory c) e w) = opening k (t ∷ []) (rw c) (rw c)
name_opens n p xs a (placed k t (storage c) e w) = opening k (t ∷ []) (rw c) (rw c)

builtin_complete : (n p : ℕ) (xs : List Token) (a : Argument) → BuiltinArgument n p xs a → (ys : List Token) → builtin_argument n p (xs ++ ys) ≡ got a (length xs)
unfolding builtin_argument look choose
builtin_complete n p xs a (builtin_string t e) ys = rw e
builtin_complete n p xs a (builtin_literal t e) ys = rw e
builtin_complete n p xs a (builtin_name h) ys = name_in_builtin n p xs a h ys ∙ name_complete n p xs a h ys

builtin_opens : (n p : ℕ) (xs : List Token) (a : Argument) → BuiltinArgument n p xs a → Opens ends_list calm xs
builtin_opens n p xs a (builtin_string t e) = opening t [] (rw e) (rw e)
builtin_opens n p xs a (builtin_literal t e) = opening t [] (rw e) (rw e)
builtin_opens n p xs a (builtin_name h) = name_opens n p xs a h

item_complete : (m : Rules) (takes : Bool) (wrong p : ℕ) (xs : List Token) (ss : List Simple) → Item takes p xs ss → (ys : List Token) → calm (token_at ys 0) ≡ true
    → item takes wrong p (xs ++ ys) ≡ got ss (length xs)
unfolding item ident_step operand_step look choose
item_complete m takes wrong p xs ss (literal t e) ys h = rw e
item_complete m takes wrong p xs ss (opcode t e w) ys h = rw e (rw w)
item_complete m takes wrong p xs ss (push t v e w k f) ys h = rw e (rw w (rw k (rw f)))
item_complete m takes wrong p xs ss (label_call t e) ys h = rw e (rw (calm_open (token_at ys 0) h))
item_complete m takes wrong p xs ss (invocation {xs = us} {args = args} t o e f c) ys h =
    rw e (rw f (ap (λ r. with_one_more (with_one_more r)) (then_complete (closed_list call_argument) _ (suc (suc p)) us ys args
    (closed_complete CallArgument call_argument (call_holds m) call_some calm (λ n q vs a u ws f. call_complete n q vs a u ws) call_opens calm_comma calm_close (suc (suc p)) us args c ys))))
item_complete m takes wrong p xs ss (constant l t r e f g) ys h = rw e (rw f (rw g))
item_complete m takes wrong p xs ss (argument_call l t r e f g) ys h = rw e (rw f (rw g))
item_complete m takes wrong p xs ss (builtin {xs = us} {args = args} t o e f c) ys h =
    rw e (rw f (ap (λ r. with_one_more (with_one_more r)) (then_complete (closed_list builtin_argument) _ (suc (suc p)) us ys args
    (closed_complete BuiltinArgument builtin_argument (builtin_holds m) builtin_some calm (λ n q vs a u ws f. builtin_complete n q vs a u ws) builtin_opens calm_comma calm_close (suc (suc p)) us args c ys))))

pub item_opens : (takes : Bool) (p : ℕ) (xs : List Token) (ss : List Simple) → Item takes p xs ss → Opens ends_items calm xs
item_opens takes p xs ss (literal t e) = opening t [] (rw e) (rw e)
item_opens takes p xs ss (opcode t e w) = opening t [] (rw e) (rw e)
item_opens takes p xs ss (push t v e w k f) = opening t (v ∷ []) (rw e) (rw e)
item_opens takes p xs ss (label_call t e) = opening t [] (rw e) (rw e)
item_opens takes p xs ss (invocation {xs = us} t o e f c) = opening t (o ∷ us) (rw e) (rw e)
item_opens takes p xs ss (constant l t r e f g) = opening l (t ∷ r ∷ []) (rw e) (rw e)
item_opens takes p xs ss (argument_call l t r e f g) = opening l (t ∷ r ∷ []) (rw e) (rw e)
item_opens takes p xs ss (builtin {xs = us} t o e f c) = opening t (o ∷ us) (rw e) (rw e)

items_complete : (m : Rules) (takes : Bool) (wrong : ℕ) → Plain m wrong → (p : ℕ) (xs : List Token) (is : List (List Simple)) → Items takes p xs is → (ys : List Token)
    → ends_items (token_at ys 0) ≡ true
    → items takes wrong p (xs ++ ys) ≡ got is (length xs)
unfolding items
items_complete m takes wrong told p xs is k ys h =
    many_complete ends_items forget (λ s. item takes wrong) (λ s. Item takes) (λ s. item_holds m takes wrong told) (λ s. item_some takes)
    calm (λ s. item_opens takes) (λ s. item_complete m takes wrong) calm_ends refl tt p xs is k ys h

group_complete : (m : Rules) (seen : List (List ℕ)) (p : ℕ) (xs : List Token) (g : Group) → LabelGroup m seen p xs g → (ys : List Token)
    → ends_items (token_at ys 0) ≡ true
    → label_group m seen p (xs ++ ys) ≡ got g (length xs)
unfolding label_group group_rest look choose
group_complete m seen p xs g (group {xs = us} {is = is} t c e w f k) ys h =
    rw e (rw w (rw f (ap (λ r. with_one_more (with_one_more r))
    (then_complete (items m.push_in_labels 6) _ (suc (suc p)) us ys is
    (items_complete m m.push_in_labels 6 (plain_number m 6 refl refl refl) (suc (suc p)) us is k ys h)))))

pub group_opens : (m : Rules) (seen : List (List ℕ)) (p : ℕ) (xs : List Token) (g : Group) → LabelGroup m seen p xs g → Opens ends_groups ends_items xs
group_opens m seen p xs g (group {xs = us} t c e w f k) = opening t (c ∷ us) (rw e) (rw e)

ends_both : (t : Token) → ends_groups t ≡ true → ends_items t ≡ true
ends_both t h = rw h (or-true (eqb t.kind Label))

-- a body before any tokens
pub body_complete : (m : Rules) (p : ℕ) (xs : List Token) (r : Reading) → Body m p xs r → (zs : List Token) → body_from m p (xs ++ zs) ≡ got r (length xs)
unfolding body_from groups look
body_complete m p xs r (body {xs = us} {ys = vs} {is = is} {gs = gs} o c e k g f) zs =
    rw (append_assoc us (vs ++ (c ∷ [])) zs, append_assoc vs (c ∷ []) zs, length-append us (vs ++ (c ∷ [])), length-append vs (c ∷ [])) (rw e (ap with_one_more
    (seq_complete (items true 5) (λ js. seq (groups m) (λ hs. expect CloseBrace _ (λ d q ts. got (record { main = flatten js; groups = hs }) 0))) (suc p) (length vs + 1) us (vs ++ (c ∷ zs)) is r
    (items_complete m true 5 (plain_number m 5 refl refl refl) (suc p) us is k (vs ++ (c ∷ zs))
    (many_first remember (LabelGroup m) ends_groups ends_items (group_opens m) [] (suc p + length us) vs gs (c ∷ zs) g (rw f)))
    (seq_complete (groups m) (λ hs. expect CloseBrace _ (λ d q ts. got (record { main = flatten is; groups = hs }) 0)) (suc p + length us) 1 vs (c ∷ zs) gs r
    (many_complete ends_groups remember (label_group m) (LabelGroup m) (group_holds m) (group_some m) ends_items (group_opens m) (group_complete m) ends_both refl
    [] (suc p + length us) vs gs g (c ∷ zs) (rw f))
    (rw f)))))
