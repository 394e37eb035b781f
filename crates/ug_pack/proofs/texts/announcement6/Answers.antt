use Rattle.std.proofs.Common.{◌≡◌, ◌+◌, ◌≤◌, ℕ, List, Some, sym, ap, ◌∙◌, arith}
use Rattle.ug_message.specs.Spelling.{optional}
use Rattle.ug_message.proofs.Heads.{length_head}
use Rattle.ug_update.specs.Updates.{weight_of_all}
use Rattle.ug_pack.proofs.Hops.{put6}
use Rattle.ug_pack.proofs.texts.announcement6.Goals as goal

pub returns : goal.returns
returns c = record {
  own = λ s is le. c.in_ok-written.ensures.text s is (omega (arith, le, c.requires.short));
  any = λ hop is s session le. c.in_ok-written.ensures.rewritten s hop session (omega (arith, le, c.requires.short)) is ∙ ap (λ (t : List ℕ). Some t) (sym (put6 c.in_ok-written.written.place hop c.in_ok-written.written.bytes.items is));
  inside = omega (arith, c.in_ok-written.ensures.place, c.in_ok-written.ensures.size, length_head optional 14 (21 + weight_of_all c.args.keys.now));
}
