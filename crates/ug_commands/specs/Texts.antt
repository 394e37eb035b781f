-- The lines of groups.
use Rattle.std.specs.Prelude.{ℕ, ◌+◌, Bool, List, [], ◌∷◌, ◌++◌, Option, Some, None, codes, if◌then◌else◌}
use Rattle.std.specs.List.{flat_map}
use Rattle.std.specs.Fmt.{decimal}
use Rattle.ug_outbound.specs.declared.kind.Kind.{Kind}
use Rattle.ug_outbound.specs.declared.kind.Kind.TheVariants.{External, Internal, Client}
use Rattle.ug_outbound.specs.declared.key.GroupKey.{GroupKey}
use Rattle.ug_world.specs.World.{World}
use Rattle.ug_commands.specs.declared.member.Member.{Member}
use Rattle.ug_commands.specs.Groups.{members_of, firsts, names_with}

abbrev pub kind_word : Kind → List ℕ
kind_word External = codes "external"
kind_word Internal = codes "internal"
kind_word Client = codes "client"

abbrev pub yes_or_no : Bool → List ℕ
yes_or_no b = if b then codes "yes" else codes "no"

-- a name, or `-` where there is none
abbrev pub name_or_dash : Option (List ℕ) → List ℕ
name_or_dash None = codes "-"
name_or_dash (Some name) = name

-- ` as-override=AS`, or `-` where no AS is replaced
abbrev pub override_text : Option ℕ → List ℕ
override_text None = codes " as-override=-"
override_text (Some asn) = codes " as-override=" ++ decimal asn

-- names with commas between
abbrev pub names_text : List (List ℕ) → List ℕ
names_text [] = []
names_text (name ∷ names) = name ++ flat_map (λ n. codes "," ++ n) names

-- ` KIND list=NAME map=NAME add-path=YN next-hop-self=YN`
unfoldable pub policy_text : GroupKey → List ℕ
policy_text k =
    codes " " ++ kind_word k.kind ++ codes " list=" ++ name_or_dash k.list ++ codes " map=" ++ name_or_dash k.map
    ++ codes " add-path=" ++ yes_or_no k.add_path ++ codes " next-hop-self=" ++ yes_or_no k.next_hop_self

-- ` remove-private=YN send-community=YN`
unfoldable pub removal_text : GroupKey → List ℕ
removal_text k = codes " remove-private=" ++ (yes_or_no k.remove_private_as ++ (codes " send-community=" ++ yes_or_no k.send_community))

-- ` extended=YN enhanced-refresh=YN`
unfoldable pub capability_text : GroupKey → List ℕ
capability_text k = codes " extended=" ++ (yes_or_no k.extended ++ (codes " enhanced-refresh=" ++ yes_or_no k.enhanced_refresh))

-- `group N`, and the key's texts
unfoldable pub head_text : ℕ → GroupKey → List ℕ
head_text number key =
    codes "group " ++ decimal number ++ policy_text key ++ override_text key.as_override ++ removal_text key ++ capability_text key

-- beside it ` peers=NAMES`
unfoldable pub group_text : ℕ → GroupKey → List (List ℕ) → List ℕ
group_text number key names = head_text number key ++ codes " peers=" ++ names_text names ++ codes "\n"

-- a line for each group by its first member, numbered from there on
abbrev pub numbered : List Member → ℕ → List Member → List (List ℕ)
numbered members number [] = []
numbered members number (first ∷ more) = group_text number first.key (names_with first.key members) ∷ numbered members (number + 1) more

abbrev pub lines_of : List Member → List (List ℕ)
lines_of members = numbered members 1 (firsts [] members)

-- the report on the groups of a speaker's peers, line by line
abbrev pub group_lines : World → List (List ℕ)
group_lines w = lines_of (members_of w)
