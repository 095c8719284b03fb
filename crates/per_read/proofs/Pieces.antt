-- Items that come after one length alone, and octets that are skipped piece by piece (X.691 11.9.3.5 to 11.9.3.8).
use Rattle.std.proofs.Common.{◌≡◌, inl, inr, sym, ℕ, ◌*◌, ◌^◌, true, List, length, arith}
use Rattle.std.proofs.lemmas.Bool.{lt-ltb}
use Rattle.rasn_types.specs.Bits.{Bits, pack, unpack}
use Rattle.rasn_types.proofs.Octets.{length-pack, unpack-pack}
use Rattle.rasn_constraints.specs.Bounds.{allows, any_size}
use Rattle.per_core.specs.Basic.{Octets, OneByOne, Sized, octet}
use Rattle.per_core.specs.Counts.{ItemKind, octet_items}
use Rattle.per_core.specs.Spellings.{Settings, Spelling, Took, NoneIn}
use Rattle.per_core.proofs.TakenInTurn.{took_map}
use Rattle.per_read.specs.Items.{TookItems}
use Rattle.per_core.specs.BitFieldFaults.{Says}
use Rattle.per_read.specs.Kinds.{Faulty}
use Rattle.per_core.specs.Lengths.{LengthOf}
use Rattle.per_read.specs.Takes.{Front}
use Rattle.per_core.specs.declared.decode_error.DecodeErrorKind.{DecodeErrorKind}
use Rattle.per_core.specs.declared.lengths.Length.TheVariants.{Last, Fragment}
use Rattle.per_read.proofs.FragmentItems.{items_begin, last_part, no_items_length, no_items_short, small_length}
use Rattle.per_read.specs.OpenTypes.{fragments_of}
use Rattle.per_read.specs.Reasons.{gathering}
use Rattle.per_read.proofs.FrontItems.{octets_took}
use Rattle.per_read.proofs.Fronts.{no_front, front_took}

-- what is skipped is kept nowhere
abbrev pub Anything : Unit {0} → Unit {0} → List ℕ → Type 0
Anything before after codes = Unit {0}

-- octets that are skipped
pub skipped : (n : ℕ) (bits : Bits) {s t : Bits} → Took (Front (8 * n) bits) s t → TookItems Anything (OneByOne octet) n tt tt s t
skipped n bits b = record { codes = pack n bits; count = length-pack n bits; added = record { behind = λ start xs h. tt }; took = octets_took n bits b }

-- items after one length
pub one_piece : {X : Type 0} (a : Settings) (item : X → Spelling) (kind : ItemKind) (xs : List X) (n : ℕ) {s m t : Bits} → Took (LengthOf a (Last n)) s m → length xs ≡ n → Took (OneByOne item xs) m t
    → Took (Sized a any_size kind item xs) s t
one_piece a item kind xs n b e c =
    let few = (small_length (Last n) b).0 in
    let allowed : allows any_size (length xs) ≡ true = lt-ltb (length xs) (2 ^ 64) (omega (arith, few, e)) in
    took_map (λ p x y. record { allowed = allowed; spelled = y }) (last_part item b e c)

pub octets_are : (n : ℕ) (bits : Bits) {s t : Bits} → Took (Front (8 * n) bits) s t → bits ≡ unpack (pack n bits)
octets_are n bits c = sym (unpack-pack n bits (front_took c).0)

module _ (a : Settings) {s : Bits} where
  -- octets after one length
  pub octets_in_place : (n : ℕ) (bits : Bits) {m t : Bits} → Took (LengthOf a (Last n)) s m → Took (Front (8 * n) bits) m t → Took (Octets a (pack n bits)) s t
  octets_in_place n bits b c = one_piece a octet octet_items (pack n bits) n b (length-pack n bits) (octets_took n bits c)

  pub no_length_no_octets : NoneIn (LengthOf a) s → NoneIn (Octets a) s
  no_length_no_octets none = no_items_length (items_begin Anything a 8 s tt) octet_items none

  pub no_front_no_octets : (n : ℕ) {m : Bits} → Took (LengthOf a (Last n)) s m → NoneIn (Front (8 * n)) m → NoneIn (Octets a) s
  no_front_no_octets n {m} b none = no_items_short (items_begin Anything a 8 s tt) octet_items (Last n) m b (λ few. no_front none)

-- a refusal by a call that gathers fragments
pub gathers : (says : Settings → Says) {a : Settings} {s m : Bits} {A B : Type 0} (n : ℕ) (k : DecodeErrorKind) → Took (LengthOf a (Fragment n)) s m → (A → B) → Faulty (says a s) A k
    → gathering fragments_of says a s B k
gathers says n k b f (inl e) = inl (e, record { count = n; rest = _; took = b })
gathers says n k b f (inr h) = inr (h.0, f h.1)
