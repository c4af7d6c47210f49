-- Texts put into a buffer, one after another.
use Prim.Native.Nat.{ℕ, ◌+◌, ◌≤◌}
use native.Mathlib.Omega.{arith}
use mathlib.Core.Path.{◌≡◌, refl, sym, ◌∙◌, ap, subst}
use mathlib.Core.List.{List, [], ◌++◌, append-nil, append_assoc}
use borrow.Rule.Slice.Mut.{set_vals}
use borrow.Rule.Slice.PartMut.{put_mid}
use lib.ListN.{length, take, drop, length-append, length-take, length-drop}
use lib.Seq.{drop-drop}
use Rattle.std.proofs.lemmas.Slice.{take-put_mid, drop-put_mid}
use Rattle.lines.specs.declared.Page.{Page}
use Rattle.lines.specs.Put.{Put}
use Rattle.lines.specs.Pages.{Puts}

put_none : (l : List ℕ) (at : ℕ) → Put l at [] l at
put_none l at = record { front = sym (append-nil (take at l)); rest = refl; ends = omega arith }

pub put_copied : (l t t' : List ℕ) (at k : ℕ) → at + k ≤ length l → t' ≡ t → k ≡ length t → Put l at t (put_mid at k l t') (at + k)
put_copied l t t' at k h e n = record {
  front = take-put_mid at k l t' (at + k) (omega (arith, ap length e)) (omega arith) ∙ ap (λ s. take at l ++ s) e;
  rest = drop-put_mid at k l t' (at + k) (omega arith) (omega arith) (omega (arith, ap length e));
  ends = omega arith;
}

-- the buffer keeps its length
long : {l t l' : List ℕ} {at to : ℕ} → Put l at t l' to → at + length t ≤ length l → length l' ≡ length l
long {l} {t} {l'} {at} {to} p h = omega (
  arith,
  p.ends,
  ap length p.front,
  ap length p.rest,
  length-append (take at l) t,
  length-take at l,
  length-take to l',
  length-drop to l,
  length-drop to l',
)

-- what was dropped alike stays so further on
further : (a b : List ℕ) (j n k : ℕ) → k ≡ j + n → drop j b ≡ drop j a → drop k b ≡ drop k a
further a b j n k e h = ap (λ i. drop i b) e ∙ sym (drop-drop n j b) ∙ ap (drop n) h ∙ drop-drop n j a ∙ sym (ap (λ i. drop i a) e)

then_put : {a b c s t : List ℕ} {i j k : ℕ} → Put a i s b j → Put b j t c k → Put a i (s ++ t) c k
then_put {a} {b} {c} {s} {t} {i} {j} {k} p q = record {
  front = q.front ∙ ap (λ l. l ++ t) p.front ∙ append_assoc (take i a) s t;
  rest = q.rest ∙ further a b j (length t) k q.ends p.rest;
  ends = omega (arith, q.ends, p.ends, length-append s t);
}

-- ---- on a page

pub puts_none : (p : Page) → Puts p [] 0 p
puts_none p = record { put = put_none p.out.now p.at; within = omega arith; same_length = refl; same_reference = refl }

pub then : {p q r : Page} {s t : List ℕ} {m n : ℕ} → Puts p s m q → Puts q t n r → Puts p (s ++ t) (m + n) r
then f g = record {
  put = then_put f.put g.put;
  within = omega (arith, f.within, g.within);
  same_length = g.same_length ∙ f.same_length;
  same_reference = g.same_reference ∙ f.same_reference;
}

pub puts_same : {p q : Page} {s t : List ℕ} {m n : ℕ} → s ≡ t → m ≤ n → Puts p s m q → Puts p t n q
puts_same {p} {q} e h f = record {
  put = subst (λ l. Put p.out.now p.at l q.out.now q.at) e f.put;
  within = omega (arith, f.within);
  same_length = f.same_length;
  same_reference = f.same_reference;
}

pub puts_copied : (p : Page) (t t' : List ℕ) (k : ℕ) → p.at + length t ≤ length p.out.now → k ≡ length t → t' ≡ t
    → Puts p t (length t) (record { out = set_vals (put_mid p.at k p.out.now t') p.out; at = p.at + length t })
puts_copied p t t' k h n e =
    record {
      put = rw n (put_copied p.out.now t t' p.at (length t) h e refl);
      within = omega arith;
      same_length = long (put_copied p.out.now t t' p.at k (omega arith) e n) (omega arith);
      same_reference = refl;
    }
