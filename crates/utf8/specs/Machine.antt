-- What the code's numbers for states mean, and what its two tables have to say of them.
use Rattle.std.specs.Prelude.{◌≡◌, Bool, true, List, [], ◌∷◌, map, ℕ, ◌+◌, ◌≤◌, ◌<◌, ◌/◌, ◌%◌, ◌^◌, length, get_or, take, drop}
use Rattle.utf8.specs.Syntax.{Range, UTF8-char}
use Rattle.utf8.specs.Check.{State, owes, refused, next, passes, is_utf8}

-- what a row of the table owes behind its first byte
abbrev pub behind : List Range → State
behind [] = refused
behind (range ∷ row) = owes row

-- the states: refused, and what each row owes. The first row, of ASCII, owes nothing: that is the state between characters
unfoldable pub states : List State
states = refused ∷ map behind UTF8-char

-- the code numbers them in steps of six
unfoldable pub state_of : ℕ → State
state_of n = get_or states (n / 6) refused

pub record Numbered (n : ℕ) : Type 0 where
  pub whole : n % 6 ≡ 0
  pub small : n ≤ 54

-- the number that the tables give: the byte's class names a word, and the word has six bits for each state
unfoldable pub looked : List ℕ → List ℕ → ℕ → ℕ → ℕ
looked classes words n b = get_or words (get_or classes b 0 % 16) 0 / 2 ^ n % 64

-- n is the number of the state `state`
pub record Means (n : ℕ) (state : State) : Type 0 where
  pub numbered : Numbered n
  pub means : state_of n ≡ state

-- the tables lead each state by each byte to where the test goes
pub record Tables (classes words : List ℕ) : Type 0 where
  pub leads : (n b : ℕ) → Numbered n → b < 256 → Means (looked classes words n b) (next (state_of n) b)

-- the code is now in state n at the place at, and what it has still to answer is what it had to answer in state m at the place from
pub record Walked (s : List ℕ) (m from n at : ℕ) : Type 0 where
  pub numbered : Numbered n
  pub up : from ≤ at
  pub inside : at ≤ length s
  pub same : passes (state_of m) (drop from s) ≡ passes (state_of n) (drop at s)

-- each of the n bytes at a place is at most r
pub record Covers (s : List ℕ) (at n r : ℕ) : Type 0 where
  pub each : (k : ℕ) → k < n → get_or s (at + k) 0 ≤ r

-- where r is below 128, so is each of the n bytes at a place
pub record Screens (s : List ℕ) (at n r : ℕ) : Type 0 where
  pub each : r < 128 → (k : ℕ) → k < n → get_or s (at + k) 0 < 128

-- what lies between two places has no say: the text behind the one is UTF-8 exactly where the text behind the other is
pub record Passed (s : List ℕ) (from at : ℕ) : Type 0 where
  pub up : from ≤ at
  pub inside : at ≤ length s
  pub same : is_utf8 (drop from s) ≡ is_utf8 (drop at s)

-- yes is answered of text alone
pub record Sees (answer : Bool) (s : List ℕ) (start size : ℕ) : Type 0 where
  pub text : answer ≡ true → is_utf8 (take size (drop start s)) ≡ true
