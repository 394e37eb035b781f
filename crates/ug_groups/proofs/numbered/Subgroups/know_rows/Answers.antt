use Rattle.std.specs.Prelude.{None, ◌+◌}
use Rattle.std.proofs.Common.{sym, ap, ◌∙◌, slice_get}
use Rattle.ug_groups.specs.Rows.{IsRow}
use Rattle.ug_groups.proofs.Accounts.{counted_in, at_row}
use Rattle.ug_groups.proofs.Scanned.{entry_at, placed_entry}
use Rattle.ug_groups.proofs.numbered.Subgroups.know_rows.Goals as goal

pub know_entries-requires : goal.know_entries-requires
know_entries-requires c i r at =
    let s = c.self.inside in
    counted_in s.pool s.live r.0 r.1 (s.classes, None, c.self.invariant) (entry_at i r.0 r.1 s.live (ap (λ (rows : _). slice_get rows i) (sym c.entries.ensures) ∙ at))

pub returns : goal.returns
returns c g r at =
    let s = c.self.inside in
    at_row IsRow s.pool s.live g c.args.self.now c.self.view_is
    (λ e there. let found = placed_entry 0 g e s.live there in c.know_entries.ensures found.0 (0 + g, e) (ap (λ (rows : _). slice_get rows found.0) c.entries.ensures ∙ found.1)) r at
