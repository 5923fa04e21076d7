-- The promises of the exported functions: those of the entries and of the lexer, and the numbers of the answer where the caller lent a place for them.
use Rattle.std.specs.Prelude.{ℕ, ◌≡◌, List, Result}
use Rattle.statements.specs.declared.entry.BodyRead.{BodyRead}
use Rattle.statements.specs.declared.entry.BodyError.{BodyError}
use Rattle.statements.specs.Call as body
use Rattle.files.specs.declared.file.FileRead.{FileRead}
use Rattle.files.specs.declared.entry.FileError.{FileError}
use Rattle.files.specs.Call as file
use Rattle.lexer.specs.Call as lexed

-- a file call's: an answer that `read_file` promises, with all that is lent, and its seven numbers
pub record FileAnswered (mode : ℕ) (text words kept definitions statements arguments answer' kept' definitions' statements' arguments' : List ℕ) : Type 0 where
  pub given : Result FileRead FileError
  pub call : file.FileCall mode text words kept definitions statements arguments given kept' definitions' statements' arguments'
  pub numbers : answer' ≡ file.values given

-- a body call's: an answer that `read_body` promises, with all that is lent, and its seven numbers
pub record BodyAnswered (mode edition : ℕ) (text words : List ℕ) (start : ℕ) (kept statements arguments answer' kept' statements' arguments' : List ℕ) : Type 0 where
  pub given : Result BodyRead BodyError
  pub call : body.BodyCall mode edition text words start kept statements arguments given kept' statements' arguments'
  pub numbers : answer' ≡ body.values given

-- the lexer's: an answer that `lex` promises, with the lent token list, and its three numbers
pub record LexAnswered (text tokens answer' tokens' : List ℕ) : Type 0 where
  pub given : lexed.Lexed
  pub call : lexed.LexCall text tokens given tokens'
  pub numbers : answer' ≡ lexed.values given
