-- Inner: names that are remembered by the places of their tokens, and what lets the code answer "none of them is this name" without looking at each.
use Rattle.std.specs.Prelude.{ℕ, zero, suc, ◌+◌, ◌-◌, ◌*◌, ◌/◌, ◌%◌, ◌≤◌, ◌<◌, ◌≡◌, Bool, true, false, cond, List, [], ◌∷◌, eqb, length, get_or}
use Rattle.std.specs.Int.Bits.{bit_and}
use Rattle.tokens.specs.Number.{most_tokens}
use Rattle.tokens.specs.Token.{Token, token_at}
use Rattle.tokens.specs.Name.{one_of}

-- a number made into one below 2 ^ 32
unfoldable pub mixed : ℕ → ℕ
mixed h = h % 4294967296 * 2654435761 / 4096 % 4294967296

-- four bytes as one number, the first one lowest
unfoldable pub four_of : ℕ → ℕ → ℕ → ℕ → ℕ
four_of a b c d = a + b * 256 + c * most_tokens + d * 16777216

-- fewer than four bytes as one number, the last one lowest
unfoldable pub rest_of : List ℕ → ℕ
rest_of [] = 0
rest_of (a ∷ []) = a
rest_of (a ∷ b ∷ []) = a * 256 + b
rest_of (a ∷ b ∷ c ∷ bs) = (a * 256 + b) * 256 + c

-- a number below 2 ^ 32 for every list of bytes, four at a time and those that are left together; which number it is is of no account but for speed
unfoldable pub hash_from : ℕ → List ℕ → ℕ
hash_from h [] = mixed (h + rest_of [])
hash_from h (a ∷ []) = mixed (h + rest_of (a ∷ []))
hash_from h (a ∷ b ∷ []) = mixed (h + rest_of (a ∷ b ∷ []))
hash_from h (a ∷ b ∷ c ∷ []) = mixed (h + rest_of (a ∷ b ∷ c ∷ []))
hash_from h (a ∷ b ∷ c ∷ d ∷ bs) = hash_from (mixed (h + four_of a b c d)) bs

-- that of a name
abbrev pub hash_of : List ℕ → ℕ
hash_of name = hash_from 0 name

-- the bucket of a hash among so many: of its low bits
unfoldable pub bucket_in : ℕ → ℕ → ℕ
bucket_in size h = bit_and h (size - 1)

-- that of a name
abbrev pub bucket_of : ℕ → List ℕ → ℕ
bucket_of size name = bucket_in size (hash_of name)

-- the tag of a hash, and of what is stored of a name: the high bits
abbrev pub tag_of : ℕ → ℕ
tag_of h = h / most_tokens

-- what is stored of a name with this hash whose token is at place p: the tag above the place
abbrev pub note_of : ℕ → ℕ → ℕ
note_of h p = tag_of h * most_tokens + p

-- the place that a note tells
abbrev pub place_of : ℕ → ℕ
place_of note = note % most_tokens

-- remembered name number j
abbrev pub name_at : List Token → List ℕ → ℕ → List ℕ
name_at all places j = (token_at all (place_of (get_or places j 0))).text

-- the first n remembered names, the last one first
unfoldable pub names_at : List Token → List ℕ → ℕ → List (List ℕ)
names_at all places zero = []
names_at all places (suc n) = name_at all places n ∷ names_at all places n

-- of the first n names the last whose bucket among so many is b, as one more than its number; 0 if there is none
unfoldable pub latest : ℕ → List Token → List ℕ → ℕ → ℕ → ℕ
latest size all places b zero = 0
latest size all places b (suc n) = cond (eqb (bucket_of size (name_at all places n)) b) (suc n) (latest size all places b n)

-- what is stored of n remembered names: for each bucket the last name in it, for each name the last one before it in its bucket, and its tag
pub record Noted (all : List Token) (heads next places : List ℕ) (n : ℕ) : Type 0 where
  pub placed : n ≤ length places
  pub linked : n ≤ length next
  pub some : 1 ≤ length heads
  pub head : (b : ℕ) → b < length heads → get_or heads b 0 ≡ latest (length heads) all places b n
  pub link : (j : ℕ) → j < n → get_or next j 0 ≡ latest (length heads) all places (bucket_of (length heads) (name_at all places j)) j
  pub tag : (j : ℕ) → j < n → tag_of (get_or places j 0) ≡ tag_of (hash_of (name_at all places j))

-- what a contract sees of remembered names: the tokens that they are names of, the names, the last one first, and how many there is room for
pub record Seen : Type 0 where
  pub tokens : List Token
  pub names : List (List ℕ)
  pub room : ℕ

-- none of them is remembered yet, and there is room for those of so many tokens, at least `each` of them to a name
pub record Fresh (each tokens : ℕ) (all : List Token) (now : Seen) : Type 0 where
  pub same : now.tokens ≡ all
  pub fresh : now.names ≡ []
  pub room : tokens ≤ each * now.room

-- what the test of a name promises: whether a remembered one is the same; if none is, it is remembered, and else nothing more than was
pub record Checked (name : List ℕ) (before : Seen) (r : Bool) (after : Seen) : Type 0 where
  pub is : r ≡ one_of before.names name
  pub then : after ≡ cond r before (record before { names = name ∷ before.names })

-- one name more is remembered in tables, unless an earlier one is the same
abbrev pub Noting : Bool → List Token → List ℕ → List ℕ → ℕ → List ℕ → List ℕ → List ℕ → ℕ → Type 0
Noting true all name places n heads' next' places' n' = Unit {0}
Noting false all name places n heads' next' places' n' =
    Noted all heads' next' places' n' × (names_at all places' n' ≡ name ∷ names_at all places n)

-- the same test of a name, over tables that hold n names: whether one of them is the same, and what the tables hold then
pub record CheckedIn (all : List Token) (name places : List ℕ) (n : ℕ) (r : Bool) (heads' next' places' : List ℕ) : Type 0 where
  pub is : r ≡ one_of (names_at all places n) name
  pub then : Noting r all name places n heads' next' places' (suc n)
