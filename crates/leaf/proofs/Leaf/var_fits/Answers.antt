use lib.IntN.{ℤ}
use mathlib.Core.Bool.{Bool, ◌&&◌}
use mathlib.Core.Path.{◌∙◌, ◌≡◌, ap, ap₂, sym}
use mir.Facts.{to_z-of_z}
use mir.Syntax.{w64}
use mir.Val.{of_z, to_z}
use Rattle.calculus.specs.Classes.{literal_in}
use Rattle.calculus.specs.Facts.{code, len}
use Rattle.calculus.specs.Model.{model_value}
use Rattle.leaf.proofs.Laws.{card_any, from_literal, var_all}
use Rattle.question.proofs.Posed.{some_character}
use Rattle.question.specs.Posed.{asked}
use Rattle.leaf.specs.Values.{code_fits, l_valid_fits, literal_fits}
use Rattle.leaf.proofs.Leaf.var_fits.Goals as goal
use Rattle.leaf.proofs.Leaf.var_fits.Goals.{After-literal_fits, After-value_of-code, After-value_of-len, else-length_fits, else-literal_fits, then-length_fits, then-literal_fits}
use Rattle.calculus.specs.SettledTest.{settled_card}

-- the length and the code that were read
z-is : (c : After-value_of-len)
    → to_z w64 (of_z w64 c.value_of-len.result)
    ≡ model_value (asked c.args.self.now.ticket.now c.args.self.now.s)
    c.args.self.now.model.now len
    c.args.x
unfolding asked
z-is c = to_z-of_z {w = w64} (record { sfits = c.value_of-len.type_inv }) ∙ c.value_of-len.ensures

c-is : (c : After-value_of-code)
    →
    let args = c.args in
    to_z w64 (of_z w64 c.value_of-code.result)
    ≡ model_value (asked args.self.now.ticket.now args.self.now.s)
    args.self.now.model.now
    code args.x
unfolding asked
c-is c = to_z-of_z {w = w64} (record { sfits = c.value_of-code.type_inv }) ∙ c.value_of-code.ensures

-- the tests before Card
literal-test : (c : After-literal_fits) →
    let args = c.args in
    c.literal_fits.result
    ≡ from_literal (asked args.self.now.ticket.now args.self.now.s)
    args.self.now.labels.now args.self.now.model.now args.x
literal-test c =
    let s = c.args in
    let u = asked s.self.now.ticket.now s.self.now.s in
    c.literal_fits.ensures
    ∙ ap₂ (literal_fits u (literal_in u s.self.now.labels.now s.x)) (z-is (goal.at.After-literal_fits c).After-value_of-len)
    (c-is (goal.at.After-literal_fits c).After-value_of-code)

pub returns-then-code_fits : goal.returns-then-code_fits
unfolding asked
returns-then-code_fits c =
    let s = c.args in
    let u = asked s.self.now.ticket.now s.self.now.s in
    let z = z-is (goal.at.returns-then-code_fits c).After-value_of-len in
    let d = c-is (goal.at.returns-then-code_fits c).After-value_of-code in
    let l : Bool = from_literal u s.self.now.labels.now s.self.now.model.now s.x in
    let n : Bool = l_valid_fits s.self.now.labels.now s.x (model_value u s.self.now.model.now len s.x) in
    let k : Bool = code_fits u.n (model_value u s.self.now.model.now len s.x) (model_value u s.self.now.model.now code s.x) in
    let t = literal-test (goal.at.returns-then-code_fits c).After-literal_fits in
    let first : c.if-literal_fits.value ≡ (l && n) = elim c.if-literal_fits.branch [
      | then-literal_fits w ↦
          w.value-is ∙ w.length_fits.ensures ∙ ap (l_valid_fits s.self.now.labels.now s.x) z ∙ sym (ap (λ (b : Bool). b && n) (sym t ∙ w.if-literal_fits.true))
      | else-literal_fits w ↦ w.value-is ∙ w.if-literal_fits.false ∙ sym (ap (λ (b : Bool). b && n) (sym t ∙ w.if-literal_fits.false))
    ] in
    let second : c.if-length_fits.value ≡ ((l && n) && k) = elim c.if-length_fits.branch [
      | then-length_fits w ↦
          w.value-is ∙ w.code_fits.ensures ∙ ap₂ (λ (x y : ℤ). code_fits s.self.now.s.n x y) z d
          ∙ sym (ap (λ (b : Bool). b && k) (sym first ∙ w.if-length_fits.true))
      | else-length_fits w ↦ w.value-is ∙ w.if-length_fits.false ∙ sym (ap (λ (b : Bool). b && k) (sym first ∙ w.if-length_fits.false))
    ] in
    c.card_fits.ensures ∙ card_any s.self.now.ticket.now s.self.now.s s.self.now.labels.now s.self.now.model.now s.x
    ∙ sym (var_all u s.self.now.labels.now s.self.now.model.now s.x ∙ ap (λ (b : Bool). b && settled_card u s.self.now.labels.now s.self.now.model.now s.x) (sym second ∙ c.if-code_fits.true))

pub returns-else-code_fits : goal.returns-else-code_fits
unfolding asked
returns-else-code_fits c =
    let s = c.args in
    let u = asked s.self.now.ticket.now s.self.now.s in
    let z = z-is (goal.at.returns-else-code_fits c).After-value_of-len in
    let d = c-is (goal.at.returns-else-code_fits c).After-value_of-code in
    let l : Bool = from_literal u s.self.now.labels.now s.self.now.model.now s.x in
    let n : Bool = l_valid_fits s.self.now.labels.now s.x (model_value u s.self.now.model.now len s.x) in
    let k : Bool = code_fits u.n (model_value u s.self.now.model.now len s.x) (model_value u s.self.now.model.now code s.x) in
    let t = literal-test (goal.at.returns-else-code_fits c).After-literal_fits in
    let first : c.if-literal_fits.value ≡ (l && n) = elim c.if-literal_fits.branch [
      | then-literal_fits w ↦
          w.value-is ∙ w.length_fits.ensures ∙ ap (l_valid_fits s.self.now.labels.now s.x) z ∙ sym (ap (λ (b : Bool). b && n) (sym t ∙ w.if-literal_fits.true))
      | else-literal_fits w ↦ w.value-is ∙ w.if-literal_fits.false ∙ sym (ap (λ (b : Bool). b && n) (sym t ∙ w.if-literal_fits.false))
    ] in
    let second : c.if-length_fits.value ≡ ((l && n) && k) = elim c.if-length_fits.branch [
      | then-length_fits w ↦
          w.value-is ∙ w.code_fits.ensures ∙ ap₂ (λ (x y : ℤ). code_fits s.self.now.s.n x y) z d
          ∙ sym (ap (λ (b : Bool). b && k) (sym first ∙ w.if-length_fits.true))
      | else-length_fits w ↦ w.value-is ∙ w.if-length_fits.false ∙ sym (ap (λ (b : Bool). b && k) (sym first ∙ w.if-length_fits.false))
    ] in
    c.if-code_fits.false
    ∙ sym (var_all u s.self.now.labels.now s.self.now.model.now s.x ∙ ap (λ (b : Bool). b && settled_card u s.self.now.labels.now s.self.now.model.now s.x) (sym second ∙ c.if-code_fits.false))

pub code_fits-requires : goal.code_fits-requires
code_fits-requires c =
    let pre = c.requires in
    some_character pre.0.posed
