use Rattle.std.proofs.Common.{refl, lit<, ◌∷◌, ◌++◌, replicate, false}
use Rattle.rasn_types.specs.Values.{truth}
use Rattle.rasn_constraints.specs.Bounds.{any_size}
use Rattle.per_core.specs.Canon.{canon}
use Rattle.per_core.proofs.Laws
use Rattle.per_rows.specs.Build.{uper, list, list_of, with_all}
use Rattle.per_rows.specs.Samples.{byte}
use Rattle.per_rows.proofs.Long.{long_bytes}
use Rattle.per_rows.proofs.structures.uper_long_list_of_bytes_is_read_of_its_fragments.Goals as goal

pub returns : goal.returns
unfolding canon
returns c = Laws.written_is_read uper (list_of byte any_size) (list (replicate 99000 (with_all (replicate 8 (truth false)))))
    (0xc4 ∷ (replicate 65536 0x00 ++ 0xc2 ∷ (replicate 32768 0x00 ++ 0x82 ∷ 0xb8 ∷ replicate 696 0x00)))
    (long_bytes 99000 refl refl ((refl, (lit< tt, tt), (refl, (lit< tt, tt), (refl, (lit< tt, (lit< tt, tt)), tt)))) (lit< tt))
