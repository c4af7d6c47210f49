-- The body of a step: its rule's number, the child field and the operands, each rule with its length and its bytes.
use Prim.Native.Nat.{ℕ, ◌+◌, ◌<◌}
use native.Mathlib.Omega.{arith}
use native.Mathlib.Decide.{dec_lt}
use mathlib.Core.Path.{◌≡◌, refl, sym, ◌∙◌, ap}
use mathlib.Core.List.{List, [], ◌∷◌, ◌++◌}
use lib.ListN.{length, length-append, get_or-eq_default}
use lib.Dec.{eqb}
use borrow.Author.Tests.{eqb-true}
use Rattle.lists.proofs.Tests.{→true}
use Rattle.lists.proofs.Below.{all_below→}
use Rattle.calculus.specs.Steps.{Step, Sum, BranchOn, Apart, AConf, SConf, SProp, LIntro, LValid, CCollapse, CValid, CInj, Card, Join}
use Rattle.format.specs.Fields.{bytes_of}
use Rattle.format.specs.StepForms.{Rule, sum, branch, apart, a_conf, s_conf, s_prop, l_intro, l_valid, c_collapse, c_valid, c_inj}
use Rattle.format.specs.StepForms.{card, join, unknown, rule_names, rule_of}
use Rattle.format.specs.Written.{u16_bytes, pair_bytes, form_bytes, len_or_code, step_body, body_of}
use Rattle.format.proofs.Encoded.{length_shorts}

-- ---- the rule of a step, the number of a rule

abbrev pub rule_in : Step → Rule
rule_in (Sum d ts) = sum
rule_in (BranchOn e) = branch
rule_in (Apart k) = apart
rule_in (AConf k) = a_conf
rule_in SConf = s_conf
rule_in (SProp f x y) = s_prop
rule_in (LIntro x) = l_intro
rule_in (LValid x) = l_valid
rule_in (CCollapse x) = c_collapse
rule_in (CValid x) = c_valid
rule_in (CInj x y) = c_inj
rule_in (Card xs) = card
rule_in (Join j k) = join

abbrev pub number_of : Rule → ℕ
number_of unknown = 0
number_of sum = 1
number_of branch = 2
number_of apart = 3
number_of a_conf = 4
number_of s_conf = 5
number_of s_prop = 6
number_of l_intro = 7
number_of l_valid = 8
number_of c_collapse = 9
number_of c_valid = 10
number_of c_inj = 11
number_of card = 12
number_of join = 13

-- a number names one rule
pub rule_numbered : (r : Rule) → rule_of (number_of r) ≡ r
rule_numbered unknown = refl
rule_numbered sum = refl
rule_numbered branch = refl
rule_numbered apart = refl
rule_numbered a_conf = refl
rule_numbered s_conf = refl
rule_numbered s_prop = refl
rule_numbered l_intro = refl
rule_numbered l_valid = refl
rule_numbered c_collapse = refl
rule_numbered c_valid = refl
rule_numbered c_inj = refl
rule_numbered card = refl
rule_numbered join = refl

-- and no rule has two
pub number_named : (k : ℕ) (r : Rule) → rule_of k ≡ r → (r ≡ unknown → ⊥) → k ≡ number_of r
number_named k r e known = go (dec_lt k 14)
  where
    go : Dec (k < 14) → k ≡ number_of r
    go (yes l) =
        sym (eqb-true (number_of (rule_of k)) k (→true _ (all_below→ 14 (λ k. eqb (number_of (rule_of k)) k) tt k l))) ∙ ap number_of e
    go (no l) = absurd (known (sym e ∙ get_or-eq_default rule_names unknown {n = k} (omega arith)))

pub number_short : (r : Rule) → number_of r < 65536
number_short unknown = omega arith
number_short sum = omega arith
number_short branch = omega arith
number_short apart = omega arith
number_short a_conf = omega arith
number_short s_conf = omega arith
number_short s_prop = omega arith
number_short l_intro = omega arith
number_short l_valid = omega arith
number_short c_collapse = omega arith
number_short c_valid = omega arith
number_short c_inj = omega arith
number_short card = omega arith
number_short join = omega arith

-- ---- the operands of a step as bytes

abbrev pub operand_bytes : Step → List ℕ
operand_bytes (Sum d ts) = bytes_of 4 d ++ pair_bytes ts
operand_bytes (BranchOn e) = form_bytes e
operand_bytes (Apart k) = u16_bytes (k ∷ [])
operand_bytes (AConf k) = u16_bytes (k ∷ [])
operand_bytes SConf = []
operand_bytes (SProp f x y) = u16_bytes (len_or_code f ∷ x ∷ y ∷ [])
operand_bytes (LIntro x) = u16_bytes (x ∷ [])
operand_bytes (LValid x) = u16_bytes (x ∷ [])
operand_bytes (CCollapse x) = u16_bytes (x ∷ [])
operand_bytes (CValid x) = u16_bytes (x ∷ [])
operand_bytes (CInj x y) = u16_bytes (x ∷ y ∷ [])
operand_bytes (Card xs) = u16_bytes xs
operand_bytes (Join j k) = u16_bytes (j ∷ k ∷ [])

pub body_is : (st : Step) (k : ℕ) → body_of st k ≡ step_body (number_of (rule_in st)) k (operand_bytes st)
unfolding body_of
body_is (Sum d ts) k = refl
body_is (BranchOn e) k = refl
body_is (Apart j) k = refl
body_is (AConf j) k = refl
body_is SConf k = refl
body_is (SProp f x y) k = refl
body_is (LIntro x) k = refl
body_is (LValid x) k = refl
body_is (CCollapse x) k = refl
body_is (CValid x) k = refl
body_is (CInj x y) k = refl
body_is (Card xs) k = refl
body_is (Join i j) k = refl

pub length_body : (st : Step) (k : ℕ) → length (body_of st k) ≡ 4 + length (operand_bytes st)
length_body st k =
    ap length (body_is st k)
    ∙ length-append (u16_bytes (number_of (rule_in st) ∷ k ∷ [])) (operand_bytes st)
    ∙ ap (λ n. n + length (operand_bytes st)) (length_shorts (number_of (rule_in st) ∷ k ∷ []))
