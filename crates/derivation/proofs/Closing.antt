-- A closed branch in the work area: "cut back to the mark of its last pending split", whose next child begins.
use Prim.Native.Nat.{ℕ, ◌+◌, ◌-◌, ◌≤◌, ◌<◌}
use native.Mathlib.Omega.{arith}
use mathlib.Core.Path.{◌≡◌, sym, ◌∙◌, ap, ap₂, subst}
use mathlib.Core.List.{List, ◌∷◌, ◌++◌}
use lib.ListN.{length, take}
use lib.IntN.{ℤ}
use Rattle.calculus.specs.Facts.{Branch}
use Rattle.calculus.specs.Walk.{closed, cut_back}
use Rattle.format.specs.Records.{size}
use Rattle.format.specs.StepForms.{form_for, rule}
use Rattle.format.proofs.Decoded.{at_least}
use Rattle.rows.specs.Rows.{branch_of}
use Rattle.rows.specs.Work.{Fine}
use Rattle.rows.proofs.Branches.{length_branch, branch_take, branch_grown}
use Rattle.rows.proofs.Small.{fine_first}
use Rattle.question.specs.declared.Progress.{Progress}
use Rattle.question.specs.Posed.{asked}
use Rattle.steps.specs.declared.Rule.{Rule}
use Rattle.steps.specs.Rules.{rule_named}
use Rattle.steps.specs.Offered.{offered_child}
use Rattle.steps.proofs.Table.{least_four}
use Rattle.branch.specs.declared.Split.{Split}
use Rattle.branch.specs.declared.Branch as code
use Rattle.branch.specs.Stack.{last_first, stack, latest_of, begun_of}
use Rattle.branch.proofs.Stacks.{stack_top, length_stack}
use Rattle.derivation.specs.State.{child_on, waitings, walk_of, state_of, KeepsBelow}
use Rattle.derivation.specs.Ok.{Splits, Pends, Ok, InOrder}
use Rattle.derivation.proofs.Pending.{its_pends, ok_begun}
use Rattle.derivation.proofs.Walks.{cut_back_law}
use Rattle.derivation.proofs.Holding.{fine, Puts, puts}

-- with none pending, the last branch is closed
pub none_left : (b : List ℕ) (s : Progress) (w : List ℤ) (c : code.Branch)
    → c.depth ≡ 0
    → closed ≡ cut_back ◌++◌ (waitings b (asked b s) (branch_of w c.count) (stack c))
unfolding stack last_first waitings
none_left b s w c e = ap (λ (d : ℕ). cut_back ◌++◌ (waitings b (asked b s) (branch_of w c.count) (last_first d c.splits))) (sym e)

pub open_depth : (c : code.Branch) → (c.depth ≡ 0 → ⊥) → 0 < c.depth
open_depth c n = omega arith

-- the branch cut back has the same splits
pub cut_depth : (c r : code.Branch) → stack r ≡ stack c → r.depth ≡ c.depth
cut_depth c r q = sym (length_stack r) ∙ ap length q ∙ length_stack c

module _ {b : List ℕ} {s : Progress} {w : List ℤ} {c : code.Branch} (h : InOrder b s w c) (d : 0 < c.depth) (t : Split) (top : t ≡ latest_of (stack c)) where
  abbrev br : Branch
  br = branch_of w c.count

  abbrev pub others : List Split
  others = last_first (c.depth - 1) c.splits

  pub on_top : stack c ≡ t ∷ others
  unfolding stack latest_of
  on_top = let q = stack_top c.depth c.splits d in q ∙ ap (λ (x : Split). x ∷ others) (sym (top ∙ ap latest_of q))

  ok_top : Ok b (asked b s) br (t ∷ others)
  ok_top = subst (λ (l : List Split). Ok b (asked b s) br l) on_top h.ok

  pends : Pends b (asked b s) br t
  pends = its_pends b (asked b s) br t others ok_top

  -- its mark is after the question's constraints
  pub rooted_mark : length (asked b s).constraints ≤ t.mark
  rooted_mark = pends.rooted

  pub mark_behind : t.mark ≤ c.count
  mark_behind = omega (arith, pends.behind, length_branch w c.count)

  cut_rows : take t.mark br ≡ branch_of w t.mark
  cut_rows = branch_take w c.count t.mark mark_behind

  cut_splits : Splits b (asked b s) (branch_of w t.mark) t.at t.last
  cut_splits = subst (λ (l : Branch). Splits b (asked b s) l t.at t.last) cut_rows pends.splits

  cut_fine : Fine w t.mark
  cut_fine = fine_first t.mark mark_behind (fine h)

  -- its record stands in the ticket
  pub record_stands : t.at + 4 ≤ length b
  record_stands = omega (arith, pends.splits.formed.within)

  -- and so does the number of its rule
  pub rule_stands : t.at + 6 + 2 ≤ length b
  rule_stands =
      let f = pends.splits.formed in
      let r = rule b (t.at + 6) in
      omega (arith, f.within, at_least (form_for r) (size b t.at) f.fits, least_four r)

  -- its next child can be put
  pub puts_next : (r : Rule) → rule_named r ≡ rule b (t.at + 6) → (m : ℕ) → m ≡ size b t.at → Puts r b s (t.at + 6) m w t.mark t.child
  puts_next r n m em =
      puts r b s w t.at t.last t.child m t.mark h.posed cut_splits n pends.several cut_fine pends.some_begun pends.some_left em

  -- and then the walk is the one cut back
  pub next_begins : (v : List ℤ) (r : code.Branch) (m k : ℕ) → m ≡ size b t.at → r.count ≡ k
      → branch_of v k ≡ branch_of w t.mark ++ offered_child b (asked b s) (branch_of w t.mark) (t.at + 6) m t.child
      → Fine v k
      → stack r ≡ begun_of (stack c)
      → (state_of b (asked b s) v r ≡ cut_back ◌++◌ (waitings b (asked b s) br (stack c))) × InOrder b s v r
  unfolding state_of
  next_begins v r m k em er e f es =
      let u = asked b s in
      let rows : branch_of v r.count ≡ take t.mark br ++ child_on b u (take t.mark br) t.at t.child =
      ap (branch_of v) er ∙ e ∙ ap₂ (λ (l : Branch) (i : ℕ). l ++ offered_child b u l (t.at + 6) i t.child) (sym cut_rows) em in
      let begun : stack r ≡ begun_of (t ∷ others) = es ∙ ap begun_of on_top in (
        ap₂ (walk_of b u) rows begun ∙ cut_back_law b u br t others ok_top ∙ ap (λ (l : List Split). cut_back ◌++◌ (waitings b u br l)) (sym on_top),
        record {
          posed = h.posed;
          room = f.room;
          ok =
              subst (λ (l : Branch). Ok b u l (stack r)) (sym rows)
              (subst (λ (l : List Split). Ok b u (take t.mark br ++ child_on b u (take t.mark br) t.at t.child) l) (sym begun)
              (ok_begun b u br t others ok_top));
        },
      )

  -- which keeps the facts below the mark
  pub keeps_below : (v : List ℤ) (r : code.Branch) (m k : ℕ)
      → r.count ≡ k
      → branch_of v k ≡ branch_of w t.mark ++ offered_child b (asked b s) (branch_of w t.mark) (t.at + 6) m t.child
      → KeepsBelow t.mark w v r
  keeps_below v r m k er e =
      let (long, kept) = branch_grown w v t.mark k _ e in
      record { below = kept; behind = omega (arith, long, er) }
