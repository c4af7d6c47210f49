-- A buffer that is written from the front.
use Rattle.std.specs.Prelude.{ℕ, ◌+◌, ◌≡◌, List, ◌++◌, length, take, drop}

-- a text was put after the first bytes, up to a position, and nothing else was changed; the buffer before and after, and the position after the text
pub record Put (out : List ℕ) (at : ℕ) (text : List ℕ) (out' : List ℕ) (to : ℕ) : Type 0 where
  pub front : take to out' ≡ take at out ++ text
  pub rest : drop to out' ≡ drop to out
  pub ends : to ≡ at + length text
