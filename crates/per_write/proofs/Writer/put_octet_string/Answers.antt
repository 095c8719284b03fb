use Rattle.std.proofs.Common.{◌≡◌, ap, rules, sym}
use Rattle.std.proofs.lemmas.Result.{on_ok_weaker}
use Rattle.rasn_types.specs.Variants.{variant_of}
use Rattle.rasn_types.specs.declared.types.Codec.TheVariants.{Uper}
use Rattle.rasn_constraints.specs.Constraints.{is_marked, size_in}
use Rattle.per_core.specs.Counts.{octet_items, octet_writers}
use Rattle.per_pieces.proofs.Fragments.{length-octet_writers}
use Rattle.per_write.proofs.Counting.{refused_for_memory, wrote_only_count, wrote_unstated}
use Rattle.per_write.proofs.Refusing.{octet_string_law}
use Rattle.per_write.proofs.Writer.put_octet_string.Goals as goal

pub returns-then-is_only_size : goal.returns-then-is_only_size
returns-then-is_only_size g c =
    let x = c.args.self.now in
    let os = c.args.value.now in
    let codec : x.codec ≡ Uper = search rules in
    let only = c.is_only_size.ensures c.if-is_only_size.true in
    record {
      law = rw c.size-size.ensures at (octet_string_law x c.put_bare_octets.new.self (size_in c.size-size.result) (is_marked c.size-size.result) os c.put_bare_octets.result
          (on_ok_weaker _ (wrote_only_count x c.put_bare_octets.new.self c.size-size.result octet_items (octet_writers os) _ c.requires (ap variant_of codec) only (sym (length-octet_writers os))) c.put_bare_octets.ensures.ok)
          (refused_for_memory (size_in c.size-size.result) (is_marked c.size-size.result) (octet_writers os) x c.put_bare_octets.result c.put_bare_octets.ensures.err));
      behaves = search rules;
    }

pub returns-then-is_none : goal.returns-then-is_none
returns-then-is_none g c =
    let x = c.args.self.now in
    let os = c.args.value.now in
    record {
      law = rw c.size-size.ensures at (octet_string_law x c.put_octets.new.self (size_in c.size-size.result) (is_marked c.size-size.result) os c.put_octets.result
          (on_ok_weaker _ (wrote_unstated (variant_of x.codec) x c.put_octets.new.self c.size-size.result octet_items (octet_writers os) c.if-is_none.ensures) c.put_octets.ensures.ok)
          (refused_for_memory (size_in c.size-size.result) (is_marked c.size-size.result) (octet_writers os) x c.put_octets.result c.put_octets.ensures.err));
      behaves = search rules;
    }

pub returns : goal.returns
returns g c =
    record { law = rw c.size-size.ensures at (octet_string_law c.args.self.now c.put_counted.new.self _ _ c.args.value.now c.put_counted.result c.put_counted.ensures.ok c.put_counted.ensures.err); behaves = search rules }
