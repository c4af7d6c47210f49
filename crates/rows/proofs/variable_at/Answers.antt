use lib.IntN.{pos}
use lib.ListN.{get_or}
use mathlib.Core.Path.{◌≡◌, ◌∙◌, ap}
use mir.Facts.{to_z-of_z}
use mir.Syntax.{w64}
use mir.Val.{SFits, of_z, to_z}
use Rattle.rows.specs.Rows.{index}
use Rattle.rows.proofs.Tags.{index_low}
use Rattle.rows.proofs.variable_at.Goals as goal

pub returns : goal.returns
returns c =
    let z = get_or c.args.row.now c.args.place (pos 0) in
    let f : SFits w64 z = record { sfits = c.index_below-arg-1.given } in
    let e : c.index_below.result ≡ index z = c.index_below.ensures ∙ ap index {x = to_z w64 (of_z w64 z)} {y = z} (to_z-of_z f) in
    record {
      value = e;
      upper_bound = rw e (index_low z);
    }
