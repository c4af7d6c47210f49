-- The lines so far, as the code holds them.
use Rattle.std.specs.Prelude.{ℕ, ◌+◌, ◌≤◌, ◌≡◌, List, length}
use Rattle.lines.specs.declared.Page.{Page}
use Rattle.lines.specs.Put.{Put}

-- there is room for so many bytes more
abbrev pub Room : Page → ℕ → Type 0
Room p n = p.at + n ≤ length p.out.now

-- a text of at most so many bytes was put after the lines so far, into the same buffer
pub record Puts (p : Page) (text : List ℕ) (room : ℕ) (p' : Page) : Type 0 where
  pub put : Put p.out.now p.at text p'.out.now p'.at
  pub within : p'.at ≤ p.at + room
  pub same_length : length p'.out.now ≡ length p.out.now
  pub same_reference : p'.out.ghost_name ≡ p.out.ghost_name
