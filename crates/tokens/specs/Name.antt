-- Names. Document 01, "Grammar of a body": the reserved type names, the port's list from the Solidity ABI specification; request [10]: which type each of them is, and its
-- size. And of any names: is one of them this one, do they all differ.
use Rattle.std.specs.Prelude.{ℕ, zero, suc, ◌*◌, ◌/◌, ◌%◌, ◌≡◌, Bool, false, cond, not, ◌||◌, List, [], ◌∷◌, ◌++◌, map, ltb, eqb, Option, Some, None}
use Rattle.tokens.specs.Byte.{bytes, same, numeral}
use Rattle.tokens.specs.Number.{InvalidTypeAsArgumentName, type_none, type_address, type_bool, type_string, type_bytes, type_uint, type_int, type_bytes_n, widest_bits, bits_step, widest_bytes}
use Rattle.tokens.specs.Token.{Token}
use Rattle.tokens.specs.declared.name.NameType.{NameType}
use Rattle.tokens.specs.declared.name.NameType.TheVariants as types

-- the decimal digits of a number below 1000, no zero in front
unfoldable pub decimal : ℕ → List ℕ
decimal n =
    cond (ltb n 10) (numeral n ∷ [])
    (cond (ltb n 100) (numeral (n / 10) ∷ numeral (n % 10) ∷ [])
    (numeral (n / 100) ∷ numeral (n / 10 % 10) ∷ numeral (n % 10) ∷ []))

-- step, 2 step, .. , n times step, the largest first
unfoldable pub multiples : ℕ → ℕ → List ℕ
multiples step zero = []
multiples step (suc n) = (suc n * step) ∷ multiples step n

-- an entry of that list: a name, the number of its type, its size
abbrev pub ListedType : Type 0
ListedType = List ℕ × ℕ × ℕ

-- a prefix with each of these sizes behind it, as names of one type
unfoldable pub sized : List ℕ → ℕ → List ℕ → List ListedType
sized prefix t sizes = map (λ m. (prefix ++ decimal m, t, m)) sizes

-- those without a size behind them; bare uint and int have 256 bits
unfoldable pub bare_types : List ListedType
bare_types =
    (bytes "address", type_address, 0)
    ∷ (bytes "bool", type_bool, 0)
    ∷ (bytes "string", type_string, 0)
    ∷ (bytes "bytes", type_bytes, 0)
    ∷ (bytes "uint", type_uint, widest_bits)
    ∷ (bytes "int", type_int, widest_bits)
    ∷ []

-- uintM for M = 8, 16 .. 256, the size in bits
abbrev pub uint_types : List ListedType
uint_types = sized (bytes "uint") type_uint (multiples bits_step (widest_bits / bits_step))

-- intM likewise
abbrev pub int_types : List ListedType
int_types = sized (bytes "int") type_int (multiples bits_step (widest_bits / bits_step))

-- bytes1 .. bytes32, the size in bytes
abbrev pub bytes_types : List ListedType
bytes_types = sized (bytes "bytes") type_bytes_n (multiples 1 widest_bytes)

-- the list
unfoldable pub type_names : List ListedType
type_names = bare_types ++ (uint_types ++ (int_types ++ bytes_types))

-- the type and the size that such a list has beside a name; 0, 0 for a name that it has not
unfoldable pub look_up : List ListedType → List ℕ → ℕ × ℕ
look_up [] name = (type_none, 0)
look_up (n ∷ ns) name = cond (same n.0 name) (n.1, n.2) (look_up ns name)

-- which type a name is, 1 to 7 or 0 for none, and its size
unfoldable pub type_of : List ℕ → ℕ × ℕ
type_of name = look_up type_names name

-- a reserved type name: its type is not 0
unfoldable pub reserved : List ℕ → Bool
reserved name = not (eqb (type_of name).0 type_none)

-- the type and the size in an answer with this number, where this token stands at the cursor: the token's for 7, else 0, 0
unfoldable pub type_told : ℕ → Token → ℕ × ℕ
type_told c t = cond (eqb c InvalidTypeAsArgumentName) (type_of t.text) (type_none, 0)

-- type and size of what the code tells: 0, 0 for none
abbrev pub type_numbers : Option NameType → ℕ × ℕ
type_numbers None = (type_none, 0)
type_numbers (Some types.Address) = (type_address, 0)
type_numbers (Some types.Bool) = (type_bool, 0)
type_numbers (Some types.String) = (type_string, 0)
type_numbers (Some types.Bytes) = (type_bytes, 0)
type_numbers (Some (types.Uint bits)) = (type_uint, bits)
type_numbers (Some (types.Int bits)) = (type_int, bits)
type_numbers (Some (types.BytesN bytes)) = (type_bytes_n, bytes)

-- the name is one of the list
unfoldable pub one_of : List (List ℕ) → List ℕ → Bool
one_of [] name = false
one_of (n ∷ ns) name = same n name || one_of ns name

-- no two of these names are equal byte for byte
abbrev pub AllDifferent : List (List ℕ) → Type 0
AllDifferent [] = Unit {0}
AllDifferent (n ∷ ns) = (one_of ns n ≡ false) × AllDifferent ns
