use Rattle.std.proofs.Common.{refl, rules, ap, ◌∙◌, length}
use Rattle.std.proofs.lemmas.Result.{err_from_is_err_and}
use Rattle.rasn_schema.specs.Forms.{is_size_marked, size_of}
use Rattle.rasn_schema.specs.Lists.{list_at}
use Rattle.per_decoding.specs.State.{reader_of}
use Rattle.per_de.proofs.Calls.{too_deep}
use Rattle.per_de.proofs.Listing.{list_begun, no_list_begun}
use Rattle.per_de.proofs.Decoder.enter_list.Goals as goal

pub returns-in_err-levels : goal.returns-in_err-levels
returns-in_err-levels c =
    let p = err_from_is_err_and c.from_residual-in_err-levels.result c.from_residual-in_err-levels.ensures.1 in
    let o = c.in_err-levels.ensures in
    record { law = rw (p.1, p.2) (λ element. too_deep (list_at element (size_of c.args.constraints.now) (is_size_marked c.args.constraints.now)) _ _ _ refl o.0 o.1); behaves = search rules }

pub returns-in_err-list : goal.returns-in_err-list
returns-in_err-list c =
    let p = err_from_is_err_and c.from_residual-in_err-list.result c.from_residual-in_err-list.ensures.1 in
    let o = c.in_ok-levels.ensures in
    record {
      law = rw (p.1, p.2) (no_list_begun (size_of c.args.constraints.now) (is_size_marked c.args.constraints.now) c.args.self.now c.reader-reader.result c.open_list-taken.new.self c.len-left.result c.in_ok-levels.levels
          c.open_list-taken.result o.0 (c.reader-reader.ensures ∙ ap reader_of o.1) c.open_list-taken.ensures _ c.answer.new.self c.answer.new.self (rw o.1 at c.in_err-list.ensures));
      behaves = search rules;
    }

pub returns : goal.returns
returns c =
    let o = c.in_ok-levels.ensures in
    record {
      law = list_begun (size_of c.args.constraints.now) (is_size_marked c.args.constraints.now) c.args.self.now c.reader-reader.result c.open_list-taken.new.self c.len-left.result c.in_ok-levels.levels
          c.open_list-taken.result o.0 (c.reader-reader.ensures ∙ ap reader_of o.1) c.open_list-taken.ensures (record { list = c.in_ok-list.list; levels = c.replace-outside.result }) c.answer.new.self _ c.in_ok-check_unfailed.ensures.ok
          (c.len-left.ensures ∙ ap length c.bits.ensures) (rw o.1 at c.in_ok-list.ensures) (c.replace-outside.ensures.value ∙ ap (λ z. z.levels) c.self.view_is) (search rules);
      behaves = search rules;
    }
