use Rattle.std.proofs.Common.{◌≡◌, ◌+◌, ◌≤◌, ℕ, List, Some, sym, ap, ◌∙◌, arith}
use Rattle.ug_message.proofs.AttributeParts.{next_hop_place_is, length_attributes, length_next_hop}
use Rattle.ug_pack.proofs.Hops.{put4}
use Rattle.ug_pack.proofs.texts.announcement4.Goals as goal

pub returns : goal.returns
returns c = record {
  own = λ s is le. c.in_ok-written.ensures.text s is (omega (arith, le, c.requires.short));
  any = λ hop is s session le. c.in_ok-written.ensures.rewritten s hop session (omega (arith, le, c.requires.short)) is ∙ ap (λ (t : List ℕ). Some t) (sym (put4 c.in_ok-written.written.place hop c.in_ok-written.written.bytes.items is));
  inside = omega (arith, c.in_ok-written.ensures.place, c.in_ok-written.ensures.size, next_hop_place_is c.args.attrs.now, length_attributes c.args.attrs.now, length_next_hop c.args.attrs.now);
}
