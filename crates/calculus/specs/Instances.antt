-- When a step is an instance of its rule on a branch, and with which children, rule by rule in the words of documents 01 and 02.
use Rattle.std.specs.Prelude.{ℕ, suc, ◌^◌, ◌<◌, ◌≤◌, ◌≡◌, ◌≢◌, ◌⊎◌, List, [], ◌∷◌, length, get_or, ℤ, pos, neg_ℤ, ◌+ℤ◌, ◌*ℤ◌, ◌≤ℤ◌, ◌<ℤ◌}
use Rattle.std.proofs.Math.Option.{some}
use Rattle.std.proofs.Math.ListN.{get_elem?}
use Rattle.lists.specs.Lists.{All, Distinct}
use Rattle.calculus.specs.Limits.{column_limit}
use Rattle.calculus.specs.Alphabet.{character_count}
use Rattle.calculus.specs.LinearForms.{minus}
use Rattle.calculus.specs.Facts.{Question, Fact, not_same, arithmetic, Branch, Relation, ge, eq, ne, Holds, Function, len, code, apply}
use Rattle.calculus.specs.Chains.{lit_node, Chain, OneClass, Counts}
use Rattle.calculus.specs.Steps.{Step, Sum, BranchOn, Apart, AConf, SConf, SProp, LIntro, LValid, CCollapse, CValid, CInj, Card, Join}
use Rattle.calculus.specs.Children.{sum_child, branch_children, apart_children, s_prop_child, literal_child, l_valid_children}
use Rattle.calculus.specs.Children.{c_valid_children, c_inj_children, pair_children, bound_child, join_child}

-- a form's number in place j: the constant in place 0, the coefficient of column i in place i + 1
abbrev pub entry : List ℤ → ℕ → ℤ
entry e j = get_or e j (pos 0)

-- fact number k of the branch is f
abbrev pub FactAt : Branch → ℕ → Fact → Type 0
FactAt b k f = get_elem? b k ≡ some f

-- fact number k of the branch is an arithmetic one with this relation
abbrev pub HasRelation : Branch → Relation → ℕ → Type 0
HasRelation b r k = (e : List ℤ) × FactAt b k (arithmetic r e)

-- f is a fact of the branch
abbrev pub Stands : Branch → Fact → Type 0
Stands b f = (k : ℕ) × FactAt b k f

-- ---- 1 Sum

-- "Multipliers are at least 1 on a ≥ fact, nonzero on an equation; ≠ facts and string facts do not fit"
abbrev pub Multiplier : Relation → ℤ → Type 0
Multiplier ge m = pos 1 ≤ℤ m
Multiplier eq m = m ≢ pos 0
Multiplier ne m = ⊥

-- the pair (fact k, multiplier m) names an arithmetic fact with the form e
pub record Summand (b : Branch) (k : ℕ) (m : ℤ) (e : List ℤ) : Type 0 where
  pub relation : Relation
  pub named : FactAt b k (arithmetic relation e)
  pub multiplier : Multiplier relation m

abbrev pub Summands : Branch → List (ℕ × ℤ) → List (List ℤ) → Type 0
Summands b [] [] = Unit {0}
Summands b [] (e ∷ es) = ⊥
Summands b (t ∷ ts) [] = ⊥
Summands b (t ∷ ts) (e ∷ es) = Summand b t.0 t.1 e × Summands b ts es

-- the sum in place j, each form taken times its multiplier
abbrev pub total : ℕ → List (ℕ × ℤ) → List (List ℤ) → ℤ
total j [] es = pos 0
total j (t ∷ ts) [] = pos 0
total j (t ∷ ts) (e ∷ es) = (t.1 *ℤ entry e j) +ℤ total j ts es

-- of 02, L4: "every fact named by a Sum is an equation and the constant also divides exactly"; new is the form that the Sum adds
pub record Exact (b : Branch) (d : ℕ) (ts : List (ℕ × ℤ)) (forms : List (List ℤ)) (new : List ℤ) : Type 0 where
  pub equations : All (λ t. HasRelation b eq t.0) ts
  pub constant : pos d *ℤ entry new 0 ≡ total 0 ts forms

-- then "the new fact shall be an equation", else it is ≥
abbrev pub SumRelation : Type 0 → Relation → Type 0
SumRelation exact relation = (exact × (relation ≡ eq)) ⊎ ((exact → ⊥) × (relation ≡ ge))

-- "i32 divisor of at least 1, then 1 to 8 pairs": at most 8 is a matter of form (5).
-- "Column sums must divide exactly; the constant is divided rounding down".
pub record IsSum (b : Branch) (d : ℕ) (ts : List (ℕ × ℤ)) (cs : List (List Fact)) : Type 0 where
  pub divisor : 1 ≤ d
  pub some_pair : 1 ≤ length ts
  pub forms : List (List ℤ)
  pub summands : Summands b ts forms
  pub new : List ℤ
  pub size : length new ≡ suc column_limit
  pub columns : (j : ℕ) → pos d *ℤ entry new (suc j) ≡ total (suc j) ts forms
  pub floor_low : (pos d *ℤ entry new 0) ≤ℤ total 0 ts forms
  pub floor_high : total 0 ts forms <ℤ (pos d *ℤ (entry new 0 +ℤ pos 1))
  pub relation : Relation
  pub is_equation_law : SumRelation (Exact b d ts forms new) relation
  pub adds : cs ≡ sum_child relation new

-- ---- 3 Apart: "a fact e ≠ 0"

pub record IsApart (b : Branch) (k : ℕ) (cs : List (List Fact)) : Type 0 where
  pub form : List ℤ
  pub named : FactAt b k (arithmetic ne form)
  pub adds : cs ≡ apart_children form

-- ---- 4 A-Conf: "an arithmetic fact without coefficients and false. Closes"

pub record IsAConf (b : Branch) (k : ℕ) (cs : List (List Fact)) : Type 0 where
  pub relation : Relation
  pub form : List ℤ
  pub named : FactAt b k (arithmetic relation form)
  pub no_coefficient : (j : ℕ) → entry form (suc j) ≡ pos 0
  pub false_constant : Holds relation (entry form 0) → ⊥
  pub closes : cs ≡ []

-- ---- 5 S-Conf: "two different literals share a class, or a ≉ fact has both sides in one"

pub record LiteralsMeet (u : Question) (b : Branch) : Type 0 where
  pub first : ℕ
  pub second : ℕ
  pub first_defined : first ≤ length u.literals
  pub second_defined : second ≤ length u.literals
  pub different : first ≢ second
  pub joined : Chain b (lit_node first) (lit_node second)

pub record SidesMeet (b : Branch) : Type 0 where
  pub left : ℕ
  pub right : ℕ
  pub stands : Stands b (not_same left right)
  pub joined : OneClass b left right

pub record IsSConf (u : Question) (b : Branch) (cs : List (List Fact)) : Type 0 where
  pub clash : LiteralsMeet u b ⊎ SidesMeet b
  pub closes : cs ≡ []

-- ---- 6 S-Prop: "different variables x, y of one class"

pub record IsSProp (u : Question) (b : Branch) (f : Function) (x y : ℕ) (cs : List (List Fact)) : Type 0 where
  pub different : x ≢ y
  pub joined : OneClass b x y
  pub adds : cs ≡ s_prop_child u f x y

-- ---- 7 L-Intro and 9 C-Collapse: "x, whose class holds a literal l (no operand)"

pub record IsClassLiteral (u : Question) (b : Branch) (f : Function) (x : ℕ) (cs : List (List Fact)) : Type 0 where
  pub held : ℕ
  pub counts : Counts u b x held
  pub adds : cs ≡ literal_child u f x held

-- ---- 11 C-Inj: "different x, y"

pub record IsCInj (u : Question) (x y : ℕ) (cs : List (List Fact)) : Type 0 where
  pub different : x ≢ y
  pub adds : cs ≡ c_inj_children u x y

-- ---- 12 Card

-- "a fact states their lengths' difference = 0, coefficients 1 and −1 in either order"
abbrev pub LengthsStated : Question → Branch → ℕ → ℕ → Type 0
LengthsStated u b x y = Stands b (arithmetic eq (minus (apply u len x) (apply u len y))) ⊎ Stands b (arithmetic eq (minus (apply u len y) (apply u len x)))

-- "for each neighbouring pair": x is the neighbour of the first of the list
abbrev pub Neighbours : Question → Branch → ℕ → List ℕ → Type 0
Neighbours u b x [] = Unit {0}
Neighbours u b x (y ∷ ys) = LengthsStated u b x y × Neighbours u b y ys

-- "with L the smallest number such that n to the power L is at least m"
pub record LeastPower (n m l : ℕ) : Type 0 where
  pub reaches : m ≤ n ^ l
  pub least : (k : ℕ) → m ≤ n ^ k → l ≤ k

pub record Bound (u : Question) (x m : ℕ) (cs : List (List Fact)) : Type 0 where
  pub power : ℕ
  pub least : LeastPower (character_count u.n) m power
  pub adds : cs ≡ bound_child u x power

-- the last child, about x among m variables: "With n = 1 the last child is left out"
abbrev pub LastChild : Question → ℕ → ℕ → List (List Fact) → Type 0
LastChild u x m cs = ((character_count u.n ≡ 1) × (cs ≡ [])) ⊎ ((character_count u.n ≢ 1) × Bound u x m cs)

-- "2 to 16 different variables, m of them", with the premise on their lengths: "for each neighbouring pair a fact states", or another at a leaf
pub record IsCard (u : Question) (Lengths : Type 0) (x : ℕ) (xs : List ℕ) (cs : List (List Fact)) : Type 0 where
  pub different : Distinct (x ∷ xs)
  pub lengths : Lengths
  pub last : List (List Fact)
  pub last_child_law : LastChild u x (suc (length xs)) last
  pub adds : cs ≡ pair_children (x ∷ xs) last

-- ---- 13 Join: "one the negative of the other"; of 02, L4: "Join takes equations as well as ≥ facts"

pub record IsJoin (b : Branch) (j k : ℕ) (cs : List (List Fact)) : Type 0 where
  pub first_relation : Relation
  pub second_relation : Relation
  pub first_taken : first_relation ≢ ne
  pub second_taken : second_relation ≢ ne
  pub form : List ℤ
  pub negative : List ℤ
  pub first : FactAt b j (arithmetic first_relation form)
  pub second : FactAt b k (arithmetic second_relation negative)
  pub negated : (i : ℕ) → entry negative i ≡ neg_ℤ (entry form i)
  pub adds : cs ≡ join_child form

-- ---- every rule

-- the step is an instance of its rule on the branch b, with the children cs; a closing rule has none. Card has at least 2 variables.
-- Document 01: "A step is proper when it fits its rule, as worded above, on the branch where it stands".
unfoldable pub Instance : Question → Branch → Step → List (List Fact) → Type 0
Instance u b (Sum d ts) cs = IsSum b d ts cs
Instance u b (BranchOn e) cs = cs ≡ branch_children e
Instance u b (Apart k) cs = IsApart b k cs
Instance u b (AConf k) cs = IsAConf b k cs
Instance u b SConf cs = IsSConf u b cs
Instance u b (SProp f x y) cs = IsSProp u b f x y cs
Instance u b (LIntro x) cs = IsClassLiteral u b len x cs
Instance u b (LValid x) cs = cs ≡ l_valid_children u x
Instance u b (CCollapse x) cs = IsClassLiteral u b code x cs
Instance u b (CValid x) cs = cs ≡ c_valid_children u x
Instance u b (CInj x y) cs = IsCInj u x y cs
Instance u b (Card []) cs = ⊥
Instance u b (Card (x ∷ [])) cs = ⊥
Instance u b (Card (x ∷ y ∷ xs)) cs = IsCard u (Neighbours u b x (y ∷ xs)) x (y ∷ xs) cs
Instance u b (Join j k) cs = IsJoin b j k cs

-- ---- the part of a step's form (refusals 5 and 6) that the rules rest on

-- a step of the question: its variables are the question's, a form is whole, a Sum has a divisor of at least 1 and a pair, and Card two variables. Multipliers' ranges
-- and greatest counts are not in it; Card's 16 holds since its variables differ and p is at most 16.
unfoldable pub IsStep : Question → Step → Type 0
IsStep u (Sum d ts) = (1 ≤ d) × (1 ≤ length ts)
IsStep u (BranchOn e) = length e ≡ suc column_limit
IsStep u (Apart k) = Unit {0}
IsStep u (AConf k) = Unit {0}
IsStep u SConf = Unit {0}
IsStep u (SProp f x y) = (x < u.p) × (y < u.p)
IsStep u (LIntro x) = x < u.p
IsStep u (LValid x) = x < u.p
IsStep u (CCollapse x) = x < u.p
IsStep u (CValid x) = x < u.p
IsStep u (CInj x y) = (x < u.p) × (y < u.p)
IsStep u (Card xs) = All (λ x. x < u.p) xs × (2 ≤ length xs)
IsStep u (Join j k) = Unit {0}
