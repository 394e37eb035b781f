use Rattle.std.specs.Prelude.{Option, Some, None, IfSome}
use Rattle.std.proofs.Common.{◌≡◌, ◌≤◌, ℕ, refl, length, subst}
use Rattle.ug_queue.specs.Queues.{place_of}
use Rattle.ug_queue.specs.Rests.{IsInside}
use Rattle.ug_queue.proofs.Kept.{stands_inside}
use Rattle.ug_queue.proofs.line.Line.know_places.Goals as goal

at_most : (o : Option ℕ) (n : ℕ) → ((place : ℕ) → o ≡ Some place → place ≤ n) → IfSome o (λ place. place ≤ n)
at_most None n h = tt
at_most (Some place) n h = h place refl

pub returns : goal.returns
returns g c m =
    subst (λ q. IsInside q m) c.self.view_is
    (at_most (place_of (record { packets = c.self.inside.packets.items; places = _; limit = c.self.inside.limit }) m) (length c.self.inside.packets.items) (λ place at. (stands_inside _ _ _ _ c.self.invariant m place at).1))
