-- The requests of a command line: a command, the files that it names, and its numbers.
use Rattle.std.specs.Prelude.{ℕ, ◌+◌, ◌^◌, ◌==◌, ◌&&◌, nat_lt, Bool, true, List, [], ◌∷◌, length, take, drop, Option, None, Some, codes, bytes_eq, if◌then◌else◌}
use Rattle.std.specs.Fmt.{decimal}
use Rattle.std.specs.List.{list_any}
use Rattle.bddl_model.specs.Bytes.{digits_from}
use Rattle.bddl_model.specs.declared.command.Command.{Command}
use Rattle.bddl_model.specs.declared.command.Command.TheVariants.{Compile, Solve, SolveFormula, Certify, Check, Recertify, Play, Trial, FormatDomain, FormatProblem, Help, Version}

-- ---- the table of commands

-- the words that name it
abbrev pub names_of : Command → List (List ℕ)
names_of Compile = codes "compile" ∷ []
names_of Solve = codes "solve" ∷ []
names_of SolveFormula = codes "qsolve" ∷ []
names_of Certify = codes "certify" ∷ []
names_of Check = codes "check" ∷ []
names_of Recertify = codes "recert" ∷ []
names_of Play = codes "play" ∷ []
names_of Trial = codes "trial" ∷ []
names_of FormatDomain = codes "fmt-domain" ∷ []
names_of FormatProblem = codes "fmt-problem" ∷ []
names_of Help = codes "help" ∷ codes "--help" ∷ []
names_of Version = codes "version" ∷ codes "--version" ∷ []

-- a game file has at most so many bytes
abbrev pub game_limit : Option ℕ
game_limit = Some 1048576

-- a formula file has at most so many bytes
abbrev pub formula_limit : Option ℕ
formula_limit = Some 67108864

-- a certificate may be as long as memory allows
abbrev pub certificate_limit : Option ℕ
certificate_limit = None

-- the files that it takes, by the most bytes that each may have, if there is such a number
abbrev pub limits_of : Command → List (Option ℕ)
limits_of Compile = game_limit ∷ game_limit ∷ []
limits_of Solve = game_limit ∷ game_limit ∷ []
limits_of SolveFormula = formula_limit ∷ []
limits_of Certify = game_limit ∷ game_limit ∷ []
limits_of Check = game_limit ∷ game_limit ∷ certificate_limit ∷ []
limits_of Recertify = game_limit ∷ game_limit ∷ certificate_limit ∷ []
limits_of Play = game_limit ∷ game_limit ∷ certificate_limit ∷ []
limits_of Trial = []
limits_of FormatDomain = game_limit ∷ []
limits_of FormatProblem = game_limit ∷ []
limits_of Help = []
limits_of Version = []

-- how many numbers follow the files
abbrev pub numbers_of : Command → ℕ
numbers_of Compile = 0
numbers_of Solve = 1
numbers_of SolveFormula = 1
numbers_of Certify = 1
numbers_of Check = 0
numbers_of Recertify = 0
numbers_of Play = 2
numbers_of Trial = 2
numbers_of FormatDomain = 0
numbers_of FormatProblem = 0
numbers_of Help = 0
numbers_of Version = 0

abbrev pub commands : List Command
commands = Compile ∷ Solve ∷ SolveFormula ∷ Certify ∷ Check ∷ Recertify ∷ Play ∷ Trial ∷ FormatDomain ∷ FormatProblem ∷ Help ∷ Version ∷ []

abbrev pub is_named : List ℕ → Command → Bool
is_named word c = list_any (bytes_eq word) (names_of c)

-- ---- numbers

-- the number, where it has 64 bits and the word is the way in which it is written: no sign, and no zero before other digits
abbrev pub number_written : List ℕ → Option ℕ → Option ℕ
number_written word None = None
number_written word (Some n) = if bytes_eq word (decimal n) && nat_lt n (2 ^ 64) then Some n else None

abbrev pub number_in_word : List ℕ → Option ℕ
number_in_word word = number_written word (digits_from 0 word)

-- those of all words, if each is one
abbrev pub onto_numbers : Option ℕ → Option (List ℕ) → Option (List ℕ)
onto_numbers None ns = None
onto_numbers (Some n) None = None
onto_numbers (Some n) (Some ns) = Some (n ∷ ns)

abbrev pub numbers_in_words : List (List ℕ) → Option (List ℕ)
numbers_in_words [] = Some []
numbers_in_words (w ∷ ws) = onto_numbers (number_in_word w) (numbers_in_words ws)

-- ---- requests

-- a command with the names of its files and with its numbers
pub record Request : Type 0 where
  pub command : Command
  pub files : List (List ℕ)
  pub numbers : List ℕ

abbrev pub first_named : List ℕ → List Command → Option Command
first_named word [] = None
first_named word (c ∷ cs) = if is_named word c then Some c else first_named word cs

-- the command takes so many words behind its own
abbrev pub takes : Command → ℕ → Bool
takes c n = n == length (limits_of c) + numbers_of c

abbrev pub with_numbers : Command → List (List ℕ) → Option (List ℕ) → Option Request
with_numbers c files None = None
with_numbers c files (Some numbers) = Some (record { command = c; files = files; numbers = numbers })

abbrev pub request_with : Option Command → List (List ℕ) → Option Request
request_with None words = None
request_with (Some c) words =
    if takes c (length words) then with_numbers c (take (length (limits_of c)) words) (numbers_in_words (drop (length (limits_of c)) words))
    else None

abbrev pub request_in : List (List ℕ) → Option Request
request_in [] = None
request_in (word ∷ words) = request_with (first_named word commands) words

-- the opponent that a play names by its first number; they count from 0
abbrev pub opponent_in : Command → List ℕ → Option ℕ
opponent_in Play (who ∷ numbers) = Some who
opponent_in c numbers = None

abbrev pub opponent_of : Option Request → Option ℕ
opponent_of None = None
opponent_of (Some r) = opponent_in r.command r.numbers

-- it is one of so many, if one is named
abbrev pub is_there : ℕ → Option ℕ → Bool
is_there players None = true
is_there players (Some who) = nat_lt who players

abbrev pub if_opponent : ℕ → Option Request → Option Request
if_opponent players None = None
if_opponent players (Some r) = if is_there players (opponent_in r.command r.numbers) then Some r else None

-- where there are so many opponents
abbrev pub request_of : ℕ → List (List ℕ) → Option Request
request_of players words = if_opponent players (request_in words)

-- the files that a request names
abbrev pub files_of : Option Request → List (List ℕ)
files_of None = []
files_of (Some r) = r.files
