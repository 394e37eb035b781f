use Rattle.std.specs.Prelude.{[], All, get_or}
use Rattle.std.proofs.Common.{◌≡◌, sym, subst}
use Rattle.std.proofs.lemmas.List.Elements.{All-from_recursion}
use Rattle.ug_queue.specs.Queues.{place_of, AreMembers}
use Rattle.ug_queue.proofs.Members.{members_listed}
use Rattle.ug_groups.proofs.Together.{together_members}
use Rattle.ug_groups.proofs.subgroup.Subgroup.split.Goals as goal

pub copy-requires-clause-beside : goal.copy-requires-clause-beside
copy-requires-clause-beside c =
    let q = c.args.self.now.queue in let ms = c.args.members.now.items in
    subst (λ l. All (λ m. place_of q m ≡ place_of q (get_or l 0 0)) ms) (sym c.as_slice.ensures) (All-from_recursion (λ m. place_of q m ≡ place_of q (get_or ms 0 0)) ms c.requires.members.beside)

pub leave_all-requires : goal.leave_all-requires
leave_all-requires c =
    let q = c.args.self.now.queue in let ms = c.args.members.now.items in
    subst (AreMembers q) (sym c.as_slice-2.ensures) (members_listed q [] ms c.requires.members.once (together_members q ms c.requires.members))
