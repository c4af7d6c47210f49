-- Settled leaves in words: by chains, by the model's values, over every choice of operands.
use Rattle.std.specs.Prelude.{ℕ, ◌<◌, ◌≡◌, List, [], ◌∷◌, ℤ, pos, ◌≤ℤ◌}
use Rattle.std.proofs.Math.Option.{some}
use Rattle.std.proofs.Math.ListN.{get_elem?}
use Rattle.lists.specs.Lists.{All}
use Rattle.calculus.specs.Limits.{length_limit}
use Rattle.calculus.specs.LinearForms.{value_in}
use Rattle.calculus.specs.Facts.{Question, Fact, same, not_same, is_literal, arithmetic, Branch, Holds, OnArithmetic, len}
use Rattle.calculus.specs.Chains.{OneClass, ClassHolds}
use Rattle.calculus.specs.Steps.{Step, Sum, BranchOn, Apart, AConf, SConf, SProp, LIntro, LValid, CCollapse, CValid, CInj, Card, Join}
use Rattle.calculus.specs.Instances.{IsCard, Instance, IsStep}
use Rattle.calculus.specs.Model.{model_value}

-- "holds already: an arithmetic fact by the model's values, an ≈ by classes"; no child has a ≉ fact
abbrev pub HoldsAlready : Branch → List ℤ → Fact → Type 0
HoldsAlready b m (same x y) = OneClass b x y
HoldsAlready b m (not_same x y) = OneClass b x y → ⊥
HoldsAlready b m (is_literal x l) = ClassHolds b x l
HoldsAlready b m (arithmetic r e) = Holds r (value_in m e)

-- "some child holds already", with all its facts
pub record SomeChild (b : Branch) (m : List ℤ) (cs : List (List Fact)) : Type 0 where
  pub number : ℕ
  pub child : List Fact
  pub is : get_elem? cs number ≡ some child
  pub held : All (HoldsAlready b m) child

-- "Card's premise is equal model lengths"
abbrev pub LengthsEqual : Question → List ℤ → ℕ → List ℕ → Type 0
LengthsEqual u m x xs = All (λ y. model_value u m len y ≡ model_value u m len x) xs

-- the choices of operands "whose premise holds in rules 6 to 12", with their children; "S-Prop's and the others' are by classes"
unfoldable pub LeafInstance : Question → Branch → List ℤ → Step → List (List Fact) → Type 0
LeafInstance u b m (Sum d ts) cs = ⊥
LeafInstance u b m (BranchOn e) cs = ⊥
LeafInstance u b m (Apart k) cs = ⊥
LeafInstance u b m (AConf k) cs = ⊥
LeafInstance u b m SConf cs = ⊥
LeafInstance u b m (SProp f x y) cs = Instance u b (SProp f x y) cs
LeafInstance u b m (LIntro x) cs = Instance u b (LIntro x) cs
LeafInstance u b m (LValid x) cs = Instance u b (LValid x) cs
LeafInstance u b m (CCollapse x) cs = Instance u b (CCollapse x) cs
LeafInstance u b m (CValid x) cs = Instance u b (CValid x) cs
LeafInstance u b m (CInj x y) cs = Instance u b (CInj x y) cs
LeafInstance u b m (Card []) cs = ⊥
LeafInstance u b m (Card (x ∷ [])) cs = ⊥
LeafInstance u b m (Card (x ∷ y ∷ xs)) cs = IsCard u (LengthsEqual u m x (y ∷ xs)) x (y ∷ xs) cs
LeafInstance u b m (Join j k) cs = ⊥

-- "A leaf is settled by its model if S-Conf does not fit and, for every choice of operands whose premise holds in rules 6 to 12, some child holds already"
pub record Settled (u : Question) (b : Branch) (m : List ℤ) : Type 0 where
  pub no_conflict : (cs : List (List Fact)) → Instance u b SConf cs → ⊥
  pub some_child : (st : Step) → IsStep u st → (cs : List (List Fact)) → LeafInstance u b m st cs → SomeChild b m cs

-- "The model meets its facts when each arithmetic one holds with the model's value in every column"
abbrev pub MeetsArithmetic : List ℤ → Fact → Type 0
MeetsArithmetic m f = OnArithmetic (λ r e. Holds r (value_in m e)) f

-- no "length passes 64"
abbrev pub ShortLengths : Question → List ℤ → Type 0
ShortLengths u m = (x : ℕ) → x < u.p → model_value u m len x ≤ℤ pos length_limit
