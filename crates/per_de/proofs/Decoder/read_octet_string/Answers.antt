use Rattle.std.proofs.Common.{◌≡◌, ◌∙◌, ap, false, length, subst, sym, true, ℕ, Bool, Global}
use Rattle.std.specs.Prelude.{◌↔◌, Ok, IfOk}
use Rattle.std.specs.Cow.{cow_slice_items, IsBorrowedSlice}
use Rattle.std.specs.declared.borrow.CowSlice.{CowSlice}
use Rattle.rasn_types.specs.Values.{octets}
use Rattle.rasn_constraints.specs.Bounds.{Size}
use Rattle.rasn_schema.specs.Forms.{size_of, is_size_marked}
use Rattle.rasn_schema.specs.Schemas
use Rattle.rasn_traits.specs.Calls.{Reads}
use Rattle.per_decoding.specs.Rules.{plain_rules}
use Rattle.per_decoding.specs.State.{State}
use Rattle.per_de.specs.Lending.{AreLent, AreRead}
use Rattle.per_de.proofs.Lending.{alone_read, copied_unlent, enough, lent_as}
use Rattle.per_de.proofs.Decoder.read_octet_string.Goals as goal

-- what was skipped, where nothing else changed
skipped_here : {size : Size} {mark : Bool} {s t : State} {n left : ℕ} → t ≡ s → AreRead size mark s n left → AreRead size mark t n left
skipped_here {size} {mark} {s} {t} {n} {left} e g = subst (λ z. AreRead size mark z n left) (sym e) g

pub returns-then-not-come_alone-clause-lent : goal.returns-then-not-come_alone-clause-lent
returns-then-not-come_alone-clause-lent c =
    let size = size_of c.args.constraints.now in
    let mark = is_size_marked c.args.constraints.now in
    let e = c.in_ok-count.ensures.stays in
    subst (λ z. IfOk c.gathered.result (λ x. IsBorrowedSlice x ↔ AreLent size mark z (length c.gathered.new.self.bits) (length (cow_slice_items x)))) e
    (copied_unlent c.skip_octets.new.self size mark c.in_ok-count.left c.gathered.new.self (ap (λ (z : State). z.failed) e ∙ c.in_ok-check_unfailed.ensures.ok) c.in_ok-count.count (skipped_here e c.in_ok-count.ensures.ok)
    c.gathered.result c.gathered.ensures.read c.gathered.ensures.owned (λ a. let f : false ≡ true = sym c.if-not-come_alone.true ∙ c.come_alone.ensures.1 a.alone in absurd cc))

pub octets_before-requires : goal.octets_before-requires
octets_before-requires c =
    let e = c.in_ok-count.ensures.stays in
    enough c.skip_octets.new.self (size_of c.args.constraints.now) (is_size_marked c.args.constraints.now) c.in_ok-count.left c.skip_octets.new.self (ap (λ (z : State). z.failed) e ∙ c.in_ok-check_unfailed.ensures.ok)
    c.in_ok-count.count (skipped_here e c.in_ok-count.ensures.ok) (c.come_alone.ensures.0 c.if-not-come_alone.false)

pub returns-clause-read : goal.returns-clause-read
returns-clause-read c =
    let size = size_of c.args.constraints.now in
    let mark = is_size_marked c.args.constraints.now in
    let e = c.in_ok-count.ensures.stays in
    subst (λ z. Reads plain_rules (Schemas.octet_string size mark) (λ (v : CowSlice ℕ Global). octets (cow_slice_items v)) z (Ok c.in-Ok.octets) c.advance.new.self) e
    (alone_read c.skip_octets.new.self size mark c.in_ok-count.left c.advance.new.self (ap (λ (z : State). z.failed) e ∙ c.in_ok-check_unfailed.ensures.ok) c.in_ok-count.count (skipped_here e c.in_ok-count.ensures.ok)
    c.in-Ok.octets (c.come_alone.ensures.0 c.if-not-come_alone.false) c.in-Ok.ensures.octets c.advance.ensures)

pub returns-clause-lent : goal.returns-clause-lent
returns-clause-lent c =
    let size = size_of c.args.constraints.now in
    let mark = is_size_marked c.args.constraints.now in
    let e = c.in_ok-count.ensures.stays in
    subst (λ z. IsBorrowedSlice c.in-Ok.octets ↔ AreLent size mark z (length c.advance.new.self.bits) (length (cow_slice_items c.in-Ok.octets))) e
    (lent_as c.skip_octets.new.self size mark c.in_ok-count.left c.advance.new.self (ap (λ (z : State). z.failed) e ∙ c.in_ok-check_unfailed.ensures.ok) c.in_ok-count.count (skipped_here e c.in_ok-count.ensures.ok)
    c.in-Ok.octets (c.come_alone.ensures.0 c.if-not-come_alone.false) c.in-Ok.ensures.octets c.advance.ensures c.in-Ok.ensures.lent)
