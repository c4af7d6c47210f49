-- The first child of a step begins in the work area.
use Prim.Native.Nat.{ℕ}
use native.Mathlib.Omega.{arith}
use mathlib.Core.Path.{◌≡◌, sym, ◌∙◌, ap, ap₂, subst}
use mathlib.Core.List.{List, ◌∷◌, ◌++◌}
use lib.ListN.{length}
use lib.IntN.{ℤ}
use Rattle.calculus.specs.Facts.{Branch}
use Rattle.rows.specs.Rows.{branch_of}
use Rattle.rows.proofs.Branches.{length_branch}
use Rattle.question.specs.declared.Progress.{Progress}
use Rattle.question.specs.Posed.{asked}
use Rattle.branch.specs.declared.Split.{Split}
use Rattle.branch.specs.declared.Branch as code
use Rattle.branch.specs.Stack.{split, stack}
use Rattle.branch.proofs.Stacks.{length_stack}
use Rattle.derivation.specs.State.{child_on, stepped_on, waitings, walk_of, state_of}
use Rattle.derivation.specs.Ok.{Ok, InOrder}
use Rattle.derivation.specs.Actions.{Begins, Branches}
use Rattle.derivation.proofs.Pending.{ok_one, ok_split}
use Rattle.derivation.proofs.Walks.{entered_one, entered_more}

module _ {b : List ℕ} {s : Progress} {w : List ℤ} {c : code.Branch} (h : InOrder b s w c) (at n : ℕ) (v : List ℤ) (k : ℕ)
    (g : Begins b (asked b s) (branch_of w c.count) at n v k)
    (r : code.Branch) (er : r.count ≡ k) where
  abbrev br : Branch
  br = branch_of w c.count

  abbrev Entered : Type 0
  Entered = (state_of b (asked b s) v r ≡ stepped_on b (asked b s) br (waitings b (asked b s) br (stack c)) at) × InOrder b s v r

  rows : branch_of v r.count ≡ br ++ child_on b (asked b s) br at 1
  rows = ap (branch_of v) er ∙ g.rows

  -- the state after it, by its pending splits
  with_splits : (ss : List Split)
      → stack r ≡ ss
      → walk_of b (asked b s) (br ++ child_on b (asked b s) br at 1) ss ≡ stepped_on b (asked b s) br (waitings b (asked b s) br (stack c)) at
      → Ok b (asked b s) (br ++ child_on b (asked b s) br at 1) ss → Entered
  unfolding state_of
  with_splits ss es q ok = (
    ap₂ (walk_of b (asked b s)) rows es ∙ q,
    record {
      posed = h.posed;
      room = g.fine.room;
      ok =
          subst (λ (l : Branch). Ok b (asked b s) l (stack r)) (sym rows)
          (subst (λ (l : List Split). Ok b (asked b s) (br ++ child_on b (asked b s) br at 1) l) (sym es) ok);
    },
  )

  -- its only child
  pub begins_one : n ≡ 1 → stack r ≡ stack c → Entered
  begins_one e es =
      with_splits (stack c) es (entered_one b (asked b s) br (stack c) at n h.ok g.splits e)
      (ok_one b (asked b s) br (stack c) at n h.ok g.splits (omega arith))

  -- with more, the split is pending
  pub begins_more : Branches b at n c.depth → stack r ≡ split c.count at 2 n ∷ stack c → Entered
  begins_more m es =
      with_splits (split (length br) at 2 n ∷ stack c) (es ∙ ap (λ (j : ℕ). split j at 2 n ∷ stack c) (sym (length_branch w c.count)))
      (entered_more b (asked b s) br (stack c) at n h.ok g.splits m.two)
      (ok_split b (asked b s) br (stack c) at n h.ok g.splits m.several m.two (omega (arith, m.room, length_stack c)))
