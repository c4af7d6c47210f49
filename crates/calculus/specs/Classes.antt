-- Classes by labels, which checking computes: two nodes are in one class when their labels are equal. Chains are the words for it.
use Rattle.std.specs.Prelude.{ℕ, zero, suc, ◌*◌, Bool, true, false, cond, ◌||◌, List, [], ◌∷◌, map, length, get_or, eqb}
use Rattle.std.proofs.Math.Option.{Option, none, some}
use Rattle.lists.specs.Lists.{any, any_below, values_along}
use Rattle.calculus.specs.Limits.{variable_limit}
use Rattle.calculus.specs.Facts.{Fact, Branch, Question, same, not_same, is_literal, arithmetic}
use Rattle.calculus.specs.Chains.{var_node, lit_node}

-- m numbers from k on
abbrev pub up_from : ℕ → ℕ → List ℕ
up_from k m = values_along suc (λ i. i) k m

-- each label old becomes new
abbrev pub relabel : ℕ → ℕ → List ℕ → List ℕ
relabel old new cs = map (λ c. cond (eqb c old) new c) cs

abbrev pub label : List ℕ → ℕ → ℕ
label ls i = get_or ls i i

abbrev pub merge_nodes : List ℕ → ℕ → ℕ → List ℕ
merge_nodes ls i j = relabel (label ls j) (label ls i) ls

-- the labels once a fact more stands
abbrev pub merge_fact : List ℕ → Fact → List ℕ
merge_fact ls (same x y) = merge_nodes ls (var_node x) (var_node y)
merge_fact ls (not_same x y) = ls
merge_fact ls (is_literal x l) = merge_nodes ls (var_node x) (lit_node l)
merge_fact ls (arithmetic r e) = ls

abbrev pub labels_from : List ℕ → Branch → List ℕ
labels_from ls [] = ls
labels_from ls (f ∷ b) = labels_from (merge_fact ls f) b

-- 16 variables and 16 literals, the empty one included
abbrev pub node_count : ℕ
node_count = 2 * variable_limit

-- the label of each node
abbrev pub labels : Branch → List ℕ
labels b = labels_from (up_from 0 node_count) b

abbrev pub same_class : List ℕ → ℕ → ℕ → Bool
same_class ls i j = eqb (label ls i) (label ls j)

-- the lowest literal from k on in the class of x, among m: "the lowest literal number counts"
abbrev pub lowest_literal : List ℕ → ℕ → ℕ → ℕ → Option ℕ
lowest_literal ls x k zero = none
lowest_literal ls x k (suc m) = elim (same_class ls (var_node x) (lit_node k)) [ true ↦ some k | false ↦ lowest_literal ls x (suc k) m ]

-- that of the class of x, on a branch with the labels ls
abbrev pub literal_in : Question → List ℕ → ℕ → Option ℕ
literal_in u ls x = lowest_literal ls x 0 (suc (length u.literals))

abbrev pub class_literal : Question → Branch → ℕ → Option ℕ
class_literal u b x = literal_in u (labels b) x

-- "two different literals share a class", of the first m: a literal i shares it with a lower one
abbrev pub literal_meets : List ℕ → ℕ → Bool
literal_meets ls i = any_below i (λ j. same_class ls (lit_node i) (lit_node j))

abbrev pub literals_meet : ℕ → List ℕ → Bool
literals_meet m ls = any_below m (literal_meets ls)

-- "a ≉ fact has both sides in one"
abbrev pub sides_of : List ℕ → Fact → Bool
sides_of ls (same x y) = false
sides_of ls (not_same x y) = same_class ls (var_node x) (var_node y)
sides_of ls (is_literal x l) = false
sides_of ls (arithmetic r e) = false

abbrev pub sides_meet : List ℕ → Branch → Bool
sides_meet ls b = any (sides_of ls) b

-- S-Conf fits on a branch with the labels ls, where there are m literals, the empty one included
abbrev pub clash : ℕ → List ℕ → Branch → Bool
clash m ls b = literals_meet m ls || sides_meet ls b

abbrev pub conflict : Question → Branch → Bool
conflict u b = clash (suc (length u.literals)) (labels b) b
