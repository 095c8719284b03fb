-- A SET is read as the SEQUENCE of its parts in order.
use Rattle.std.proofs.Common.{◌≡◌, refl, sym, ap, subst, ◌∙◌, ◌↔◌, ℕ, suc, Bool, true, false, List, [], ◌∷◌, length, inl, inr, Option}
use Rattle.rasn_types.specs.Bits.{Bits}
use Rattle.rasn_types.specs.Values.{Value, as_slots, slots}
use Rattle.rasn_types.specs.Variants.{Variant}
use Rattle.rasn_types.proofs.Values.{slots-as_slots}
use Rattle.rasn_schema.specs.Normal.{normal, normals}
use Rattle.rasn_schema.specs.Orders.{by_tags, ordered, canonised, canonised_slots}
use Rattle.rasn_schema.proofs.Canonised.{count_ordered, normals_ordered}
use Rattle.rasn_schema.specs.Structures.{record_value}
use Rattle.rasn_schema.specs.Schemas.{Order, listed, by_tag, Schema, Parts, tags, count}
use Rattle.per_core.specs.Basic.{Bodies, Record_in, Root, Rule, basic_in, rules_in}
use Rattle.per_core.specs.Canon.{canon, members, record_of}
use Rattle.per_core.specs.Spellings.{Settings}
use Rattle.per_core.proofs.Readings.{length-by_tags, length-rules-in}
use Rattle.per_core.specs.ListedParts.{listed_slots, AsListed, InOrder}
use Rattle.per_core.proofs.SetOrders.{members_ordered, rules_ordered, listed_again, ordered_again}

-- a record has one list of root parts and one of additions
pub one_record : (rs xs ss ys : List (Option Value)) → record_value rs xs ≡ record_value ss ys → (rs ≡ ss) × (xs ≡ ys)
one_record rs xs ss ys e =
    let p : as_slots rs ≡ as_slots ss = cc in
    let q : as_slots xs ≡ as_slots ys = cc in
    (sym (slots-as_slots rs) ∙ ap slots p ∙ slots-as_slots ss, sym (slots-as_slots xs) ∙ ap slots q ∙ slots-as_slots ys)

-- what a SET writes
pub written : (a : Variant) (ps : Parts) (ext : Bool) (adds : Parts) (rs xs : List (Option Value))
    → canon a (Schema.sequence by_tag ps ext adds) (record_value rs xs)
    ≡ canon a (Schema.sequence listed (canonised ps) ext adds) (record_value (canonised_slots ps rs) xs)
unfolding canon
written a ps ext adds rs xs =
    let x = slots (as_slots xs) in
    ap (λ ss. record_of a ext (by_tags (tags ps) (members a ps)) (members a adds) (by_tags (tags ps) ss) x) (slots-as_slots rs)
    ∙ ap (λ ss. record_of a ext (by_tags (tags ps) (members a ps)) (members a adds) ss x) (sym (slots-as_slots (canonised_slots ps rs)))
    ∙ ap (λ ms. record_of a ext ms (members a adds) (slots (as_slots (canonised_slots ps rs))) x) (sym (members_ordered a ps))

-- what spells a record
spelled : (a : Settings) (u : Bool) (o : Order) (ps : Parts) (ext : Bool) (adds : Parts) (rs xs : List (Option Value)) (p : ℕ) (bits : Bits)
    → basic_in a u (Schema.sequence o ps ext adds) (record_value rs xs) p bits
    → Record_in a u ext (ordered o (tags ps) (rules_in a u ps)) (rules_in a u adds) (ordered o (tags ps) rs) xs p bits
unfolding basic_in
spelled a u o ps ext adds rs xs p bits b =
    let e = one_record rs xs b.of.0 b.of.1 b.is in
    let rules = ordered o (tags ps) (rules_in a u ps) in
    rw (e.0, e.1) b.spelled

-- and a record that is spelled so
spells : (a : Settings) (u : Bool) (o : Order) (ps : Parts) (ext : Bool) (adds : Parts) (rs xs : List (Option Value)) (p : ℕ) (bits : Bits)
    → Record_in a u ext (ordered o (tags ps) (rules_in a u ps)) (rules_in a u adds) (ordered o (tags ps) rs) xs p bits
    → basic_in a u (Schema.sequence o ps ext adds) (record_value rs xs) p bits
unfolding basic_in
spells a u o ps ext adds rs xs p bits f = record { of = (rs, xs); is = refl; spelled = f }

-- what spells the SET spells the SEQUENCE
pub in_order : (a : Settings) (u : Bool) (ps : Parts) (ext : Bool) (adds : Parts) (rs xs : List (Option Value)) (p : ℕ) (bits : Bits)
    → basic_in a u (Schema.sequence by_tag ps ext adds) (record_value rs xs) p bits
    → basic_in a u (Schema.sequence listed (canonised ps) ext adds) (record_value (canonised_slots ps rs) xs) p bits
in_order a u ps ext adds rs xs p bits b =
    let f = spelled a u by_tag ps ext adds rs xs p bits b in
    spells a u listed (canonised ps) ext adds (canonised_slots ps rs) xs p bits
    (subst (λ rules. Record_in a u ext rules (rules_in a u adds) (canonised_slots ps rs) xs p bits) (sym (rules_ordered a u ps)) f)

-- and the other way round
pub out_of_order : (a : Settings) (u : Bool) (ps : Parts) (ext : Bool) (adds : Parts) (rs xs : List (Option Value)) (p : ℕ) (bits : Bits)
    → basic_in a u (Schema.sequence listed (canonised ps) ext adds) (record_value (canonised_slots ps rs) xs) p bits
    → basic_in a u (Schema.sequence by_tag ps ext adds) (record_value rs xs) p bits
out_of_order a u ps ext adds rs xs p bits b =
    let f = spelled a u listed (canonised ps) ext adds (canonised_slots ps rs) xs p bits b in
    spells a u by_tag ps ext adds rs xs p bits
    (subst (λ rules. Record_in a u ext rules (rules_in a u adds) (canonised_slots ps rs) xs p bits) (rules_ordered a u ps) f)

-- bodies are as many as their rules
bodies_counted : (rs : List Rule) (bs : List Bool) (ss : List (Option Value)) (p : ℕ) (bits : Bits) → Bodies rs bs ss p bits → length ss ≡ length rs
bodies_counted [] [] [] p bits b = refl
bodies_counted (r ∷ rs) (c ∷ bs) (s ∷ ss) p bits b = ap suc (bodies_counted rs bs ss _ b.rest b.is_rest)
bodies_counted [] [] (s ∷ ss) p bits b = absurd b
bodies_counted [] (c ∷ bs) ss p bits b = absurd b
bodies_counted (r ∷ rs) [] ss p bits b = absurd b
bodies_counted (r ∷ rs) (c ∷ bs) [] p bits b = absurd b

root_counted : (rs : List Rule) (ss : List (Option Value)) (p : ℕ) (bits : Bits) → Root rs ss p bits → length ss ≡ length rs
root_counted rs ss p bits r = bodies_counted rs r.shown ss _ r.spelled.rest r.spelled.is_rest

-- root parts that are spelled are as many as their rules
fields_counted : (a : Settings) (u ext : Bool) (rs adds : List Rule) (ss xs : List (Option Value)) (p : ℕ) (bits : Bits) → Record_in a u ext rs adds ss xs p bits
    → length ss ≡ length rs
fields_counted a u false rs adds ss xs p bits f = root_counted rs ss p f.front f.is_front
fields_counted a u true rs adds ss xs p bits (inl f) = root_counted rs ss _ f.is_rest.front f.is_rest.is_front
fields_counted a u true rs adds ss xs p bits (inr f) = root_counted rs ss _ f.spelled.is_rest.front f.spelled.is_rest.is_front

-- a record that is read has root parts as its rules say
counted_root : (a : Settings) (u : Bool) (o : Order) (ps : Parts) (ext : Bool) (adds : Parts) (v : Value) (p : ℕ) (bits : Bits)
    → basic_in a u (Schema.sequence o ps ext adds) v p bits
    → (rs : List (Option Value)) × (xs : List (Option Value)) × (v ≡ record_value rs xs) × (length (ordered o (tags ps) rs) ≡ length (ordered o (tags ps) (rules_in a u ps)))
unfolding basic_in
counted_root a u o ps ext adds v p bits b =
    (b.of.0, b.of.1, b.is, fields_counted a u ext (ordered o (tags ps) (rules_in a u ps)) (rules_in a u adds) (ordered o (tags ps) b.of.0) b.of.1 p bits b.spelled)

-- what a SET is read as
pub read_as_listed : (a : Settings) (u : Bool) (ps : Parts) (ext : Bool) (adds : Parts) (v : Value) (p : ℕ) (bits : Bits)
    → basic_in a u (Schema.sequence by_tag ps ext adds) v p bits → AsListed ps v
read_as_listed a u ps ext adds v p bits b =
    let q = counted_root a u by_tag ps ext adds v p bits b in
    record {
      root = q.0;
      added = q.1;
      counted = sym (length-by_tags (tags ps) q.0) ∙ q.3 ∙ length-by_tags (tags ps) (rules_in a u ps) ∙ length-rules-in a u ps;
      is = q.2;
    }

-- lists in order that are one were one
pub one_order : (ps : Parts) (rs ss : List (Option Value)) → canonised_slots ps rs ≡ canonised_slots ps ss → rs ≡ ss
one_order ps rs ss e = sym (listed_again (tags ps) rs) ∙ ap (listed_slots ps) e ∙ listed_again (tags ps) ss

-- what the SEQUENCE of the parts in order is read as
pub read_in_order : (a : Settings) (u : Bool) (ps : Parts) (ext : Bool) (adds : Parts) (v : Value) (p : ℕ) (bits : Bits)
    → basic_in a u (Schema.sequence listed (canonised ps) ext adds) v p bits → InOrder ps v
read_in_order a u ps ext adds v p bits b =
    let q = counted_root a u listed (canonised ps) ext adds v p bits b in
    let root = listed_slots ps q.0 in
    let again : canonised_slots ps root ≡ q.0 = ordered_again (tags ps) q.0 in
    let is : v ≡ record_value (canonised_slots ps root) q.1 = q.2 ∙ ap (λ ss. record_value ss q.1) (sym again) in
    record {
      root = root;
      added = q.1;
      counted = sym (length-by_tags (tags ps) root) ∙ ap length again ∙ q.3 ∙ length-rules-in a u (canonised ps) ∙ count_ordered ps;
      is = is;
      only = λ rs xs e.
          let r = one_record (canonised_slots ps rs) xs (canonised_slots ps root) q.1 (sym e ∙ is) in
          (one_order ps rs root r.0, r.1);
    }

-- nothing is read of the SET where nothing is read of the SEQUENCE
pub both_refused : (a : Settings) (u : Bool) (ps : Parts) (ext : Bool) (adds : Parts) (p : ℕ) (bits : Bits)
    → ((v : Value) → basic_in a u (Schema.sequence by_tag ps ext adds) v p bits → ⊥)
    ↔ ((v : Value) → basic_in a u (Schema.sequence listed (canonised ps) ext adds) v p bits → ⊥)
both_refused a u ps ext adds p bits = (
  λ h v b.
      let q = read_in_order a u ps ext adds v p bits b in
      h (record_value q.root q.added) (out_of_order a u ps ext adds q.root q.added p bits
      (subst (λ w. basic_in a u (Schema.sequence listed (canonised ps) ext adds) w p bits) q.is b)),
  λ h v b.
      let q = read_as_listed a u ps ext adds v p bits b in
      h (record_value (canonised_slots ps q.root) q.added) (in_order a u ps ext adds q.root q.added p bits
      (subst (λ w. basic_in a u (Schema.sequence by_tag ps ext adds) w p bits) q.is b)),
)

-- the normal form of a record
pub normal_record : (o : Order) (ps : Parts) (ext : Bool) (adds : Parts) (rs xs : List (Option Value))
    → normal (Schema.sequence o ps ext adds) (record_value rs xs) ≡ record_value (normals ps rs) (normals adds xs)
unfolding normal
normal_record o ps ext adds rs xs =
    ap (λ ss. record_value (normals ps ss) (normals adds (slots (as_slots xs)))) (slots-as_slots rs) ∙ ap (λ ss. record_value (normals ps rs) (normals adds ss)) (slots-as_slots xs)

-- the normal form of the SEQUENCE is that of the SET, in order
pub normal_in_order : (ps : Parts) (ext : Bool) (adds : Parts) (rs xs : List (Option Value)) → length rs ≡ count ps
    → normal (Schema.sequence listed (canonised ps) ext adds) (record_value (canonised_slots ps rs) xs)
    ≡ record_value (canonised_slots ps (normals ps rs)) (normals adds xs)
normal_in_order ps ext adds rs xs l =
    normal_record listed (canonised ps) ext adds (canonised_slots ps rs) xs ∙ ap (λ ss. record_value ss (normals adds xs)) (sym (normals_ordered ps rs l))
