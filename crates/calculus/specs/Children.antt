-- The children that each rule adds, as document 01 prints them: a list for each child, of its facts in order.
use Rattle.std.specs.Prelude.{ℕ, zero, suc, List, [], ◌∷◌, map, ℤ, pos, negsuc}
use Rattle.std.proofs.Math.Option.{Option, none}
use Rattle.std.proofs.Math.ListN.{get_elem?}
use Rattle.calculus.specs.Alphabet.{code_ranges}
use Rattle.calculus.specs.LinearForms.{number, minus, less, above, below}
use Rattle.calculus.specs.Facts.{Question, Fact, same, is_literal, arithmetic, Relation, ge, eq, ne, Function, len, code, literal, apply, value_of}

-- the child of number k: "the child taken, from 1"
abbrev pub child_at : {A : Type 0} → List A → ℕ → Option A
child_at cs zero = none
child_at cs (suc k) = get_elem? cs k

-- one child with one fact
abbrev pub one : Fact → List (List Fact)
one f = (f ∷ []) ∷ []

-- Sum: "Adds a ≥ fact"; of 02, L4: "the new fact shall be an equation" where the facts named and the constant allow it
abbrev pub sum_child : Relation → List ℤ → List (List Fact)
sum_child r e = one (arithmetic r e)

-- Branch: "Children e ≥ 0; −e−1 ≥ 0"
abbrev pub branch_children : List ℤ → List (List Fact)
branch_children e = (arithmetic ge e ∷ []) ∷ (arithmetic ge (below e) ∷ []) ∷ []

-- Apart: "Children e−1 ≥ 0; −e−1 ≥ 0"
abbrev pub apart_children : List ℤ → List (List Fact)
apart_children e = (arithmetic ge (above e) ∷ []) ∷ (arithmetic ge (below e) ∷ []) ∷ []

-- S-Prop: "Adds f(x) − f(y) = 0"
abbrev pub s_prop_child : Question → Function → ℕ → ℕ → List (List Fact)
s_prop_child u f x y = one (arithmetic eq (minus (apply u f x) (apply u f y)))

-- L-Intro: "Adds len(x) = length of l"; C-Collapse: "Adds code(x) = code of l, or −1"
abbrev pub literal_child : Question → Function → ℕ → ℕ → List (List Fact)
literal_child u f x l = one (arithmetic eq (minus (apply u f x) (number (value_of f (literal u l)))))

-- L-Valid: "Children x ≈ literal 0; len(x) − 1 ≥ 0"
abbrev pub l_valid_children : Question → ℕ → List (List Fact)
l_valid_children u x = (is_literal x 0 ∷ []) ∷ (arithmetic ge (above (apply u len x)) ∷ []) ∷ []

-- C-Valid: "Children len(x) ≠ 1 and code(x) = −1"
abbrev pub codeless_child : Question → ℕ → List Fact
codeless_child u x = arithmetic ne (above (apply u len x)) ∷ arithmetic eq (minus (apply u code x) (number (negsuc 0))) ∷ []

-- "len(x) = 1, code(x) ≥ 0 and n−1−code(x) ≥ 0", of a range of codes
abbrev pub code_child : Question → ℕ → ℕ × ℕ → List Fact
code_child u x r =
    arithmetic eq (above (apply u len x)) ∷ arithmetic ge (less (apply u code x) r.0) ∷ arithmetic ge (minus (number (pos r.1)) (apply u code x)) ∷ []

abbrev pub c_valid_children : Question → ℕ → List (List Fact)
c_valid_children u x = codeless_child u x ∷ map (code_child u x) (code_ranges u.n)

-- C-Inj: "Children code(x) = −1; code(x) − code(y) ≠ 0; x ≈ y"
abbrev pub c_inj_children : Question → ℕ → ℕ → List (List Fact)
c_inj_children u x y =
    (arithmetic eq (minus (apply u code x) (number (negsuc 0))) ∷ [])
    ∷ (arithmetic ne (minus (apply u code x) (apply u code y)) ∷ [])
    ∷ (same x y ∷ [])
    ∷ []

-- Card: "Children, for each pair i < j in lexicographic order, x_i ≈ x_j", before more
abbrev pub pair_children_with : ℕ → List ℕ → List (List Fact) → List (List Fact)
pair_children_with x [] more = more
pair_children_with x (y ∷ ys) more = (same x y ∷ []) ∷ pair_children_with x ys more

abbrev pub pair_children : List ℕ → List (List Fact) → List (List Fact)
pair_children [] more = more
pair_children (x ∷ xs) more = pair_children_with x xs (pair_children xs more)

-- Card: "last, len(x_1) ≥ L"
abbrev pub bound_child : Question → ℕ → ℕ → List (List Fact)
bound_child u x l = one (arithmetic ge (minus (apply u len x) (number (pos l))))

-- Join: "Adds the first as an equation"
abbrev pub join_child : List ℤ → List (List Fact)
join_child e = one (arithmetic eq e)
