-- Inner: the table in which the code finds a word; src/table.rt says how. Its numbers and the shifts are made by crates/spelling/table. No reader has to believe them: they are cited where the
-- table is lent, and what a look-up gives is said by Spelling.
use Rattle.std.specs.Prelude.{ℕ, ◌+◌, ◌-◌, ◌*◌, ◌/◌, ◌%◌, cond, List, [], ◌∷◌, ◌++◌, length, get_or, take, drop, replicate, set}
use Rattle.tokens.specs.Byte.{same}
use Rattle.spelling.specs.Spelling.{Spelt, spelt, mnemonics, keywords}

-- what a word's first byte counts in its mix
abbrev pub by_first : ℕ
by_first = 10

-- its last byte but one
abbrev pub by_second_last : ℕ
by_second_last = 13

-- its last byte
abbrev pub by_last : ℕ
by_last = 14

-- its length
abbrev pub by_length : ℕ
by_length = 2

-- how many buckets the table has
abbrev pub buckets : ℕ
buckets = 32

-- how many slots
abbrev pub slots : ℕ
slots = 256

-- the place where the slots begin, behind the buckets' shifts
abbrev pub slots_from : ℕ
slots_from = 32

-- the place where the records begin
abbrev pub records_from : ℕ
records_from = 544

-- the place where those of keywords begin
abbrev pub keywords_from : ℕ
keywords_from = 1687

-- how many bytes the table has
abbrev pub table_length : ℕ
table_length = 1860

-- the length of the shortest name
abbrev pub shortest : ℕ
shortest = 2

-- that of the longest
abbrev pub longest : ℕ
longest = 17

-- the mix of a word
unfoldable pub mix_of : List ℕ → ℕ
mix_of w = get_or w 0 0 * by_first + get_or w (length w - 2) 0 * by_second_last + get_or w (length w - 1) 0 * by_last + length w * by_length

-- the slot of a word, by the shifts with which this table begins
unfoldable pub slot_in : List ℕ → List ℕ → ℕ
slot_in table w = (mix_of w / buckets + get_or table (mix_of w % buckets) 0) % slots

-- where the record of a slot stands, by this table
unfoldable pub start_in : List ℕ → ℕ → ℕ
start_in table slot = get_or table (slots_from + slot * 2) 0 + get_or table (slots_from + slot * 2 + 1) 0 * 256

-- the name whose record stands at p in this table
unfoldable pub name_in : List ℕ → ℕ → List ℕ
name_in table p = take (get_or table p 0) (drop (p + 2) table)

-- a name's record: its length, what it stands for, its bytes
abbrev pub record_of : Spelt → List ℕ
record_of s = length s.name ∷ s.value ∷ s.name

-- the place behind a name's record that stands at p
abbrev pub behind : ℕ → Spelt → ℕ
behind p s = p + (2 + length s.name)

-- the records of these names, one behind the other
unfoldable pub records : List Spelt → List ℕ
records [] = []
records (s ∷ ss) = record_of s ++ records ss

-- where a word's record stands, if the first of these names has its own at p; 0 for a word that is none of them
unfoldable pub place_of : List Spelt → ℕ → List ℕ → ℕ
place_of [] p w = 0
place_of (s ∷ ss) p w = cond (same s.name w) p (place_of ss (behind p s) w)

-- all names of the table, in the order of their records
unfoldable pub every : List Spelt
every = mnemonics ++ keywords

-- the shift of each bucket
unfoldable pub shifts : List ℕ
shifts = 91 ∷ 36 ∷ 1 ∷ 0 ∷ 165 ∷ 3 ∷ 80 ∷ 76 ∷ 95 ∷ 12 ∷ 114 ∷ 11 ∷ 2 ∷ 85 ∷ 122 ∷ 113 ∷ 66 ∷ 152 ∷ 22 ∷ 158 ∷ 15 ∷ 19 ∷ 127 ∷ 169 ∷ 97 ∷ 153 ∷ 83 ∷ 159 ∷ 49 ∷ 162 ∷ 48 ∷ 172 ∷ []

-- the places of these names' records put into their slots, the first one at p
unfoldable pub filled : List Spelt → ℕ → List ℕ → List ℕ
filled [] p row = row
filled (s ∷ ss) p row = filled ss (behind p s) (set row (slot_in shifts s.name) p)

-- each number in two bytes, the lower one first
unfoldable pub pairs : List ℕ → List ℕ
pairs [] = []
pairs (n ∷ ns) = n % 256 ∷ n / 256 ∷ pairs ns

-- the table; a slot that no name has leads to the first record. Who unfolds it has all that it is made of
unfoldable pub spellings : List ℕ
unfolding every mnemonics keywords spelt records shifts filled slot_in mix_of pairs
spellings = shifts ++ (pairs (filled every records_from (replicate slots records_from)) ++ records every)
