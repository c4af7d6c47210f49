-- The numbers of a record after the claim, apart from those of taking a step or a model: by its kind and its place alone.
use Rattle.std.specs.Prelude.{ℕ, List, length, eqb, cond}
use Rattle.format.specs.Records.{size, kind, next, whole, need}

-- an end record with a body of m bytes that ends at a position, in a ticket of n bytes: its numbers, then what is asked next
abbrev pub end_form : ℕ → ℕ → ℕ → ℕ → ℕ
end_form n to m later = need 4 (eqb to n) (need 5 (eqb m 0) later)

-- a record of kind k where a branch is open: "11 when the end comes before every branch closed, or before a model". At a step it is what is asked next.
abbrev pub open_fault : ℕ → ℕ → ℕ → ℕ → ℕ → ℕ
open_fault n to k m step = cond (eqb k 8) (end_form n to m 11) (need 4 (eqb k 6) step)

-- the record that must be the end, after the last closed branch or a model; 0 where it is
unfoldable pub end_fault : List ℕ → ℕ → ℕ
end_fault b at = need 3 (whole b at) (need 4 (eqb (kind b at) 8) (end_form (length b) (next b at) (size b at) 0))
