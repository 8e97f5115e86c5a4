-- The round-trip law: wherever the bytes w stand in a file, a parser reads all of them, as something that means m.
use Rattle.std.specs.Prelude.{ℕ, ◌≤◌, ◌≡◌, List, ◌++◌, length, drop}
use Rattle.grammar.specs.declared.Cursor.{Cursor}
use Rattle.grammar.specs.Outcome.{advanced, Outcome, got, Parser}

-- w stands in s at a place
pub record Stands (w s : List ℕ) (at : ℕ) : Type 0 where
  pub post : List ℕ
  pub fits : at ≤ length s
  pub found : drop at s ≡ w ++ post

-- n bytes from c on were read, as a value that means m
pub record Read {A M : Type 0} (mean : A → M) (o : Outcome A) (c : Cursor) (n : ℕ) (m : M) : Type 0 where
  pub value : A
  pub means : mean value ≡ m
  pub result : o ≡ got value (advanced c n)

-- what is read may hold its place in the file, as a text does; what it means does not
pub record Gives {A M : Type 0} (mean : A → M) (s : List ℕ) (p : Parser A) (w : List ℕ) (m : M) : Type 0 where
  pub reads : (c : Cursor) → Stands w s c.at → Read mean (p s c) c (length w) m
