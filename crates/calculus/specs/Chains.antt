-- Classes: "Two variables are in one class when a chain of the branch's ≈ facts joins them, through variables or literals".
use Rattle.std.specs.Prelude.{ℕ, ◌+◌, ◌*◌, ◌<◌, ◌≤◌, ◌≡◌, length}
use Rattle.lists.specs.Lists.{Any}
use Rattle.calculus.specs.Facts.{Question, Fact, same, not_same, is_literal, arithmetic, Branch}

-- nodes: the even for the variables, the odd for the literals
abbrev pub var_node : ℕ → ℕ
var_node x = 2 * x

abbrev pub lit_node : ℕ → ℕ
lit_node l = 2 * l + 1

-- the fact f joins the nodes i and j
abbrev pub Edge : Fact → ℕ → ℕ → Type 0
Edge (same x y) i j = (i ≡ var_node x) × (j ≡ var_node y)
Edge (not_same x y) i j = ⊥
Edge (is_literal x l) i j = (i ≡ var_node x) × (j ≡ lit_node l)
Edge (arithmetic r e) i j = ⊥

abbrev pub AnyEdge : Branch → ℕ → ℕ → Type 0
AnyEdge b i j = Any (λ f. Edge f i j) b

pub data Chain (b : Branch) : ℕ → ℕ → Type 0 where
  here : {i : ℕ} → Chain b i i
  along : {i j k : ℕ} → AnyEdge b i j → Chain b j k → Chain b i k
  back : {i j k : ℕ} → AnyEdge b j i → Chain b j k → Chain b i k

-- x and y are in one class
abbrev pub OneClass : Branch → ℕ → ℕ → Type 0
OneClass b x y = Chain b (var_node x) (var_node y)

-- "a class holds a literal likewise"
abbrev pub ClassHolds : Branch → ℕ → ℕ → Type 0
ClassHolds b x l = Chain b (var_node x) (lit_node l)

-- "and the lowest literal number counts"
pub record Counts (u : Question) (b : Branch) (x l : ℕ) : Type 0 where
  pub defined : l ≤ length u.literals
  pub held : ClassHolds b x l
  pub lowest : (k : ℕ) → k < l → ClassHolds b x k → ⊥
