-- The text of packets without routes.
use Rattle.std.proofs.Common.{◌≡◌, ℕ, [], Some, refl, sym, subst}
use Rattle.ug_types.specs.declared.capabilities.Capabilities.{Capabilities}
use Rattle.ug_types.specs.Messages.{Updates, Begins, Ends}
use Rattle.ug_update.specs.Updates.{withdrawing}
use Rattle.ug_message.specs.Texts.{written}
use Rattle.ug_outbound.specs.declared.key.GroupKey.{GroupKey}
use Rattle.ug_message.specs.Packets.{Shared}
use Rattle.ug_pack.specs.Packets.{IsPlain}
use Rattle.ug_group_rules.specs.Packets.{EndOfRib, RefreshBegins, RefreshEnds}
use Rattle.ug_groups.specs.Packets.{Packed}
use Rattle.ug_groups.specs.Sent.{session_of, IsSent}
use Rattle.ug_groups.proofs.DueRoutes.{sent_plain}

pub sent_as : (c : Capabilities) (p q : Packed) → p ≡ q → IsSent c q → IsSent c p
sent_as c p q e sent = subst (IsSent c) (sym e) sent

pub sent_mark : (key : GroupKey) (made : ℕ) (p : Shared) → IsPlain key.family p → ((c : Capabilities) → c.family ≡ key.family → written c Begins ≡ Some p.bytes)
    → IsSent (session_of key) (record { made = made; says = RefreshBegins; shared = p })
sent_mark key made p plain text = sent_plain key made RefreshBegins Begins p (λ ends. refl) plain (text (session_of key) refl)

pub sent_ends : (key : GroupKey) (made : ℕ) (p : Shared) → IsPlain key.family p → ((c : Capabilities) → c.family ≡ key.family → written c Ends ≡ Some p.bytes)
    → IsSent (session_of key) (record { made = made; says = RefreshEnds; shared = p })
sent_ends key made p plain text = sent_plain key made RefreshEnds Ends p (λ ends. refl) plain (text (session_of key) refl)

pub sent_eor : (key : GroupKey) (made : ℕ) (p : Shared) → IsPlain key.family p → ((c : Capabilities) → c.family ≡ key.family → written c (Updates (withdrawing [])) ≡ Some p.bytes)
    → IsSent (session_of key) (record { made = made; says = EndOfRib; shared = p })
sent_eor key made p plain text = sent_plain key made EndOfRib (Updates (withdrawing [])) p (λ ends. refl) plain (text (session_of key) refl)
