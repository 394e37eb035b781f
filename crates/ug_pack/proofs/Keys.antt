-- The order of routes' keys.
use Rattle.std.specs.Cmp.{IsTotalOrder}
use Rattle.std.specs.FinMap.{IsAntisymmetric}
use Rattle.ug_short_key.specs.Keys.{same_keys, keys_total}
use Rattle.ug_pack.specs.Ready.{key_order}

pub key_total : IsTotalOrder key_order
key_total = keys_total

pub key_exact : IsAntisymmetric key_order
key_exact = same_keys
