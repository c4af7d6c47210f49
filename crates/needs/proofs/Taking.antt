-- The step at a position is taken: where it leads under each claim, from the code's numbers.
use Prim.Native.Nat.{ℕ, ◌+◌, ◌≤◌}
use mathlib.Core.Path.{◌≡◌, refl, sym, ◌∙◌, ap, ap₂, subst}
use mathlib.Core.Bool.{true}
use mathlib.Core.List.{List}
use mathlib.Core.Option.{get_or}
use Rattle.std.specs.Prelude.{Option, Some, None}
use Rattle.calculus.specs.Children.{child_at}
use Rattle.calculus.specs.Steps.{shape}
use Rattle.calculus.specs.Walk.{Waiting, enter}
use Rattle.calculus.proofs.Shapes.{shape_small}
use Rattle.format.specs.Records.{size}
use Rattle.format.specs.StepForms as format
use Rattle.format.specs.StepForms.{rule, child_field, step_of, is_child}
use Rattle.format.specs.Reading.{proving, taking}
use Rattle.question.specs.declared.Progress.{Progress}
use Rattle.question.specs.Posed.{asked}
use Rattle.delimiters.specs.declared.Claim.{Claim}
use Rattle.delimiters.specs.declared.Claim.TheVariants.{NoSolution, Strings}
use Rattle.steps.specs.declared.Rule.{Rule}
use Rattle.steps.specs.Rules.{rule_named, shape_of}
use Rattle.needs.specs.Pending.{walk_of}
use Rattle.needs.specs.Steps.{Fit, state_of, Enters}
use Rattle.needs.proofs.Stacks.{taken_small}

-- under claim 1 the state is the walk
tree_state : (r : Option ℕ) (ss : List (Waiting ℕ ℕ)) → state_of NoSolution ss r ≡ proving (walk_of r ss)
tree_state None ss = refl
tree_state (Some f) ss = refl

-- the record at a position, with a body of m bytes, is a step of the rule r
module _ (claim : Claim) (b : List ℕ) (s : Progress) (at m : ℕ) (r : Rule) (h : Fit claim b s at m) (named : rule_named r ≡ rule b (at + 6)) where
  abbrev body : ℕ
  body = at + 6

  its_shape : shape_of r s.n b body m ≡ shape s.n (step_of b (rule b body) body (size b at))
  its_shape = ap₂ (λ (x : format.Rule) k. shape s.n (step_of b x body k)) named h.sized

  pub enters_tree : (f : ℕ) (ss ss' : List (Waiting ℕ ℕ)) (e : Option ℕ) → claim ≡ NoSolution
      → walk_of e ss' ≡ enter ◌+◌ f (shape_of r s.n b body m) ss
      → Enters claim b s at f ss ss' e
  unfolding asked
  enters_tree f ss ss' e q w =
      subst (λ (c : Claim). Enters c b s at f ss ss' e) (sym q) (record {
        state = tree_state e ss' ∙ ap proving (w ∙ ap (λ cs. enter ◌+◌ f cs ss) its_shape);
        depth = λ k h. refl;
      })

  -- its child field is in range
  pub its_child : claim ≡ Strings → is_child (shape_of r s.n b body m) (child_field b body) ≡ true
  its_child q =
      ap (λ (x : format.Rule). is_child (shape s.n (step_of b x body m)) (child_field b body)) named
      ∙ subst (λ (c : Claim). Fit c b s at m → is_child (shape s.n (step_of b (rule b body) body m)) (child_field b body) ≡ true) (sym q) (λ g. g.field) h

  pub child_small : (k : ℕ) → get_or (child_at (shape_of r s.n b body m) k) 0 ≤ 3
  child_small k = taken_small (shape_of r s.n b body m) k 3 (shape_small s.n (step_of b (rule_named r) body m))

  pub enters_path : (f k x : ℕ) (ss : List (Waiting ℕ ℕ)) → claim ≡ Strings
      → k ≡ child_field b body
      → x ≡ get_or (child_at (shape_of r s.n b body m) k) 0
      → Enters claim b s at f ss ss (Some (f + x))
  unfolding asked
  enters_path f k x ss q ek ex =
      subst (λ (c : Claim). Enters c b s at f ss ss (Some (f + x))) (sym q) (record {
        state = ap (λ j. taking (f + j)) (ex ∙ ap₂ (λ (cs : List ℕ) i. get_or (child_at cs i) 0) its_shape ek);
        depth = λ k h. h;
      })
