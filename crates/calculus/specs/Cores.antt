-- Which conditions took part, of 02, L5: "Every fact shall carry the set of question constraints that it rests on".
use Rattle.std.specs.Prelude.{ℕ, suc, Bool, true, false, cond, ◌||◌, List, [], ◌∷◌, ◌++◌, map, get_or, replicate, ℤ}
use Rattle.std.proofs.Math.Option
use Rattle.std.proofs.Math.Option.{Option, none, some}
use Rattle.calculus.specs.Facts.{Question, Fact, same, not_same, is_literal, arithmetic, Branch, len, column_of}
use Rattle.calculus.specs.Steps.{Step, Sum, BranchOn, Apart, AConf, SConf, SProp, LIntro, LValid, CCollapse, CValid, CInj, Card, Join}
use Rattle.calculus.specs.Rules.{children, lowest_difference}
use Rattle.calculus.specs.Walk.{Waiting, Walk, working, closed, enter}

-- ---- sets of constraints: a flag for each number from 0, true where that constraint is in the set; a missing flag is false

abbrev pub Set : Type 0
Set = List Bool

-- constraint k alone
abbrev pub only : ℕ → Set
only k = replicate k false ++ (true ∷ [])

-- flag by flag
unfoldable pub union : Set → Set → Set
union [] t = t
union (x ∷ s) [] = x ∷ s
union (x ∷ s) (y ∷ t) = (x || y) ∷ union s t

-- the constraints, numbered from k, whose numbers are in the set
unfoldable pub chosen_from : ℕ → Set → Branch → Branch
chosen_from k s [] = []
chosen_from k s (f ∷ b) = cond (get_or s k false) (f ∷ chosen_from (suc k) s b) (chosen_from (suc k) s b)

-- ---- facts with their sets

-- a branch, each fact with the set that it rests on
abbrev pub Rested : Type 0
Rested = List (Fact × Set)

abbrev pub facts : Rested → Branch
facts r = map (λ (f : Fact × Set). f.0) r

abbrev pub sets : Rested → List Set
sets r = map (λ (f : Fact × Set). f.1) r

-- "A root constraint rests on itself": constraints numbered from k
unfoldable pub rooted_from : ℕ → Branch → Rested
rooted_from k [] = []
rooted_from k (f ∷ b) = (f, only k) ∷ rooted_from (suc k) b

-- the facts of a child, each of which rests on what its step rests on
abbrev pub resting : Set → List Fact → Rested
resting s c = map (λ f. (f, s)) c

-- ---- what a step rests on

-- the set of fact k, empty where there is none
abbrev pub set_at : Rested → ℕ → Set
set_at r k = get_or (sets r) k []

-- "the sets of the facts they name", of a Sum's pairs
unfoldable pub named_sets : Rested → List (ℕ × ℤ) → Set
named_sets r [] = []
named_sets r (t ∷ ts) = union (set_at r t.0) (named_sets r ts)

-- "the sets of all ≈ facts", or of all ≉ facts: of those that pass a test
unfoldable pub sets_of : (Fact → Bool) → Rested → Set
sets_of t [] = []
sets_of t (f ∷ r) = union (cond (t f.0) f.1 []) (sets_of t r)

-- a ≈ fact: variable ≈ variable, and variable ≈ literal
abbrev pub equates : Fact → Bool
equates (same x y) = true
equates (not_same x y) = false
equates (is_literal x l) = true
equates (arithmetic r e) = false

-- a ≉ fact
abbrev pub separates : Fact → Bool
separates (same x y) = false
separates (not_same x y) = true
separates (is_literal x l) = false
separates (arithmetic r e) = false

-- the set of the fact that a search found, empty where it found none
abbrev pub found_set : Rested → Option ℕ → Set
found_set r none = []
found_set r (some k) = set_at r k

-- the set of "the lowest matching fact" for a pair of Card's variables, in either order
abbrev pub lengths_set : Question → Rested → ℕ → ℕ → Set
lengths_set u r x y = found_set r (lowest_difference (facts r) (column_of u len x) (column_of u len y))

-- "for each neighbouring pair": x is the neighbour of the first of the list
unfoldable pub neighbour_sets : Question → Rested → ℕ → List ℕ → Set
neighbour_sets u r x [] = []
neighbour_sets u r x (y ∷ ys) = union (lengths_set u r x y) (neighbour_sets u r y ys)

-- "Sum, Join, Apart and A-Conf use the sets of the facts they name. S-Prop, L-Intro and C-Collapse use the sets of all ≈ facts on the branch; S-Conf uses
-- those and the sets of all ≉ facts. Card uses the lowest matching fact for each neighbouring pair. Branch, L-Valid, C-Valid and C-Inj rest on nothing."
unfoldable pub rests_on : Question → Rested → Step → Set
rests_on u r (Sum d ts) = named_sets r ts
rests_on u r (BranchOn e) = []
rests_on u r (Apart k) = set_at r k
rests_on u r (AConf k) = set_at r k
rests_on u r SConf = union (sets_of equates r) (sets_of separates r)
rests_on u r (SProp f x y) = sets_of equates r
rests_on u r (LIntro x) = sets_of equates r
rests_on u r (LValid x) = []
rests_on u r (CCollapse x) = sets_of equates r
rests_on u r (CValid x) = []
rests_on u r (CInj x y) = []
rests_on u r (Card []) = []
rests_on u r (Card (x ∷ xs)) = neighbour_sets u r x xs
rests_on u r (Join j k) = union (set_at r j) (set_at r k)

-- ---- "the union over all closing steps"

-- what a step with these children, which rests on s, gives to it: s where it has no child and so closes its branch, else nothing
abbrev pub of_closing : List (List Fact) → Set → Set
of_closing [] s = s
of_closing (c ∷ cs) s = []

-- the children of a step that fits; of others no core is asked for
abbrev pub children_of : Question → Rested → Step → List (List Fact)
children_of u r st = Option.get_or (children u (facts r) st) []

-- where a step with the children cs leads to, the splits ss pending: every fact that it adds rests on what the step rests on
abbrev pub enter_resting : Question → Rested → Step → List (List Fact) → List (Waiting Rested Rested) → Walk Rested Rested
enter_resting u r st cs ss = enter ◌++◌ r (map (resting (rests_on u r st)) cs) ss

-- what the steps from a state on give; after the last closed branch none is taken
unfoldable pub core_from : Question → Walk Rested Rested → List Step → Set
core_from u w [] = []
core_from u closed (st ∷ sts) = []
core_from u (working r ss) (st ∷ sts) = union (of_closing (children_of u r st) (rests_on u r st)) (core_from u (enter_resting u r st (children_of u r st) ss) sts)

-- the core of a question's steps: the constraints that took part, exactly this union and not made smaller
abbrev pub core_in : Question → List Step → Set
core_in u sts = core_from u (working (rooted_from 0 u.constraints) []) sts
