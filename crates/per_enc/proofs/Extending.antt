-- What additions write, one after another, after the root of a record (ITU-T X.691, 19.7 to 19.9).
use Rattle.std.proofs.Common.{◌≡◌, refl, sym, ap, ap₂, ◌∙◌, subst, inl, inr, ℕ, suc, ◌+◌, Bool, true, false, ◌||◌, List, [], ◌∷◌, length, Option, Some, None, arith, length-append}
use Rattle.rasn_types.specs.Bits.{Bits}
use Rattle.rasn_types.specs.Variants.{variant_of, Variant}
use Rattle.rasn_types.specs.Values.{Value}
use Rattle.rasn_types.specs.declared.types.Codec.{Codec}
use Rattle.rasn_schema.specs.Schemas.{Schema, Parts, no_parts, part, Presence, required, optional, group, default}
use Rattle.rasn_traits.specs.Additions.{addition_bit, PresentsAddition, presents_added, presents_skipped, PresentsAdditions, presents_no_more, presents_further, refuses_added, refuses_skipped, RefusesAdditions, refuses_addition, refuses_further, refuses_inside, refuses_surplus}
use Rattle.per_core.proofs.Presenting.{some_both}
use Rattle.per_core.specs.Canon.{Member, any_set, bitmap_of, canon, members, opens_of, shown}
use Rattle.per_core.specs.Counts.{open_bits}
use Rattle.per_core.specs.Writers.{go_on}
use Rattle.per_core.specs.declared.encode_error.EncodeError.{EncodeError}
use Rattle.per_write.specs.Additions.{IsSurplus, NoneLeft, with_next}
use Rattle.per_core.specs.WritingFaults.{HasPart, part_here, part_after}
use Rattle.per_write.specs.Faults.{RefusesValue}
use Rattle.per_write.specs.Rules.{encoder_rules}
use Rattle.per_write.specs.WriterState.{Additions, WriterState}
use Rattle.per_write.proofs.Gathering.{Gathers, gathers_none, gathers_absent, gathers_there}
use Rattle.per_pieces.proofs.Writing.{none_after}
use Rattle.per_enc.specs.Records.{part_count}

inside : {A : Type 0} {s t : A} → Some s ≡ Some t → s ≡ t
inside e = cc

-- X.691 19.8: the bit of an addition
addition_shown : (q : Presence) (r : Option Value) (b : Bool) → addition_bit q r ≡ Some b → shown q r ≡ Some b
unfolding shown
addition_shown required None b e = absurd cc
addition_shown required (Some v) b e = e
addition_shown optional None b e = e
addition_shown optional (Some v) b e = e
addition_shown group None b e = e
addition_shown group (Some v) b e = e
addition_shown (default d) None b e = absurd cc
addition_shown (default d) (Some v) b e = e

-- Where additions are still to be given: those that were given, and how many are left.
pub record Gathering (x : WriterState) (codec : Codec) (k : Additions) (n : ℕ) : Type 0 where
  pub unfailed : x.failed ≡ false
  pub same : x.codec ≡ codec
  pub keeps : x.scope.additions ≡ Some k
  pub left : length k.flags + n ≡ k.count

-- one addition was given
record GivenOne (x y : WriterState) (codec : Codec) (q : Presence) (s : Schema) (r : Option Value) (k : Additions) (n : ℕ) : Type 0 where
  kept : Additions
  pieces : y.pieces ≡ x.pieces
  presences : y.scope.presences ≡ x.scope.presences
  gathering : Gathering y codec kept n
  gathers : (ms : List Member) (ss : List (Option Value)) (l : Additions) → Gathers (variant_of codec) ms ss kept l →
      Gathers (variant_of codec) (record { presence = q; writes = canon (variant_of codec) s } ∷ ms) (r ∷ ss) k l
  bit : Bool
  is_shown : shown q r ≡ Some bit

gathering_next : (x y : WriterState) (codec : Codec) (k before : Additions) (n : ℕ) (b : Bool) (opens : Bits) → Gathering x codec k (suc n) → x.scope.additions ≡ Some before →
    y ≡ record x { scope = record x.scope { additions = Some (with_next before b opens) } } → Gathering y codec (with_next k b opens) n
gathering_next x y codec k before n b opens h a e = record {
  unfailed = ap (λ z. z.failed) e ∙ h.unfailed;
  same = ap (λ z. z.codec) e ∙ h.same;
  keeps = ap (λ z. z.scope.additions) e ∙ ap (λ (j : Additions). Some (with_next j b opens)) (inside (sym a ∙ h.keeps));
  left = omega (arith, h.left, length-append k.flags (b ∷ []));
}

given_one : (x y : WriterState) (codec : Codec) (q : Presence) (s : Schema) (r : Option Value) (k : Additions) (n : ℕ) → Gathering x codec k (suc n) → PresentsAddition encoder_rules q s x r y → GivenOne x y codec q s r k n
given_one x y codec q s (Some v) k n h (presents_added e w) =
    let same_before : w.before ≡ k = inside (sym w.awaits.some ∙ h.keeps) in
    record {
      kept = with_next k true w.opens;
      pieces = ap (λ z. z.pieces) w.same;
      presences = ap (λ z. z.scope.presences) w.same;
      gathering = gathering_next x y codec k w.before n true w.opens h w.awaits.some w.same;
      gathers = λ ms ss l g. gathers_there (variant_of codec) _ ms v ss k l w.contents w.opens (addition_shown q (Some v) true e) (ap (λ c. canon (variant_of c) s v 0) (sym h.same) ∙ w.complete)
          (appended w.before same_before w.opens w.contents w.appended) g;
      bit = true;
      is_shown = addition_shown q (Some v) true e;
    }
  where
    appended : (before : Additions) → before ≡ k → (opens contents : Bits) → Some opens ≡ go_on (Some before.opens) (open_bits (variant_of x.codec) (Some contents)) 0 →
        Some opens ≡ go_on (Some k.opens) (open_bits (variant_of codec) (Some contents)) 0
    appended before e opens contents a = a ∙ ap₂ (λ (j : Additions) (c : Codec). go_on (Some j.opens) (open_bits (variant_of c) (Some contents)) 0) e h.same
given_one x y codec q s r k n h (presents_skipped e w) =
    let same_before : w.before ≡ k = inside (sym w.awaits.some ∙ h.keeps) in
    record {
      kept = with_next k false k.opens;
      pieces = ap (λ z. z.pieces) w.same;
      presences = ap (λ z. z.scope.presences) w.same;
      gathering = gathering_next x y codec k w.before n false k.opens h w.awaits.some
          (w.same ∙ ap (λ (bs : Bits). record x { scope = record x.scope { additions = Some (with_next w.before false bs) } }) (ap (λ (j : Additions). j.opens) same_before));
      gathers = λ ms ss l g. gathers_absent (variant_of codec) _ ms r ss k l (addition_shown q r false e) g;
      bit = false;
      is_shown = addition_shown q r false e;
    }

-- all additions were given
pub record GivenAll (x y : WriterState) (codec : Codec) (ps : Parts) (rs : List (Option Value)) (k : Additions) : Type 0 where
  pub kept : Additions
  pub pieces : y.pieces ≡ x.pieces
  pub presences : y.scope.presences ≡ x.scope.presences
  pub gathering : Gathering y codec kept 0
  pub gathers : Gathers (variant_of codec) (members (variant_of codec) ps) rs k kept

pub given_all : (ps : Parts) (x y : WriterState) (codec : Codec) (rs : List (Option Value)) (k : Additions) → Gathering x codec k (part_count ps) → PresentsAdditions encoder_rules ps x rs y → GivenAll x y codec ps rs k
unfolding canon
given_all no_parts x y codec rs k h presents_no_more = record { kept = k; pieces = refl; presences = refl; gathering = h; gathers = gathers_none (variant_of codec) k }
given_all (part t q s ps) x y codec (r ∷ rs) k h (presents_further {m = m} c d) =
    let o = given_one x m codec q s r k (part_count ps) h c in
    let a = given_all ps m y codec rs o.kept o.gathering d in
    record {
      kept = a.kept;
      pieces = a.pieces ∙ o.pieces;
      presences = a.presences ∙ o.presences;
      gathering = a.gathering;
      gathers = o.gathers (members (variant_of codec) ps) rs a.kept a.gathers;
    }
given_all (part t q s ps) x y codec [] k h c = elim c [ ]

-- none is given where there is no extension marker
pub given_none : (ps : Parts) (x y : WriterState) (rs : List (Option Value)) → x.scope.additions ≡ None → PresentsAdditions encoder_rules ps x rs y → (rs ≡ []) × (y ≡ x)
given_none no_parts x y rs n presents_no_more = (refl, refl)
given_none (part t q s ps) x y (r ∷ rs) n (presents_further (presents_added e w) d) = absurd (let c = sym n ∙ w.awaits.some in cc)
given_none (part t q s ps) x y (r ∷ rs) n (presents_further (presents_skipped e w) d) = absurd (let c = sym n ∙ w.awaits.some in cc)
given_none (part t q s ps) x y [] n c = elim c [ ]

-- an addition that is refused, and what the encoder was inside its open type; those with it have no encoding
pub record RefusedAddition (e : EncodeError) (codec : Codec) (ps : Parts) (rs : List (Option Value)) : Type 0 where
  pub s : Schema
  pub v : Value
  pub m : WriterState
  pub has : HasPart s v ps rs
  pub refused : RefusesValue e m s v
  pub unfailed : m.failed ≡ false
  pub same : m.codec ≡ codec
  pub set : (bs : Bits) → bitmap_of (members (variant_of codec) ps) rs ≡ Some bs → any_set bs ≡ true
  pub none : (bs : Bits) → bitmap_of (members (variant_of codec) ps) rs ≡ Some bs → (p : ℕ) → opens_of (variant_of codec) (members (variant_of codec) ps) rs bs p ≡ None

-- one that is still to be given isn't one too many
not_surplus : {e : EncodeError} {x : WriterState} {codec : Codec} {k : Additions} {n : ℕ} → Gathering x codec k (suc n) → IsSurplus e x → ⊥
not_surplus {k = k} h (inl (i, z)) = let l = h.left in let m : NoneLeft (Some k) = subst NoneLeft h.keeps z in absurd (omega arith)
not_surplus h (inr (i, f)) = let g = h.unfailed in absurd cc

after_set : (b : Bool) (bs : Bits) → any_set bs ≡ true → any_set (b ∷ bs) ≡ true
after_set true bs h = refl
after_set false bs h = h

-- the open types after one that may be there
none_after_one : (a : Variant) (m : Member) (ms : List Member) (r : Option Value) (rs : List (Option Value)) (b : Bool) (bs : Bits) → ((p : ℕ) → opens_of a ms rs bs p ≡ None) → (p : ℕ) → opens_of a (m ∷ ms) (r ∷ rs) (b ∷ bs) p ≡ None
none_after_one a m ms (Some v) rs true bs h p = none_after (open_bits a (m.writes v 0) p) (opens_of a ms rs bs) p h
none_after_one a m ms None rs true bs h p = h p
none_after_one a m ms None rs false bs h p = h p
none_after_one a m ms (Some v) rs false bs h p = h p

-- an addition without encoding
first_none : (a : Variant) (m : Member) (ms : List Member) (v : Value) (rs : List (Option Value)) (b : Bool) (bs : Bits) → b ≡ true → m.writes v 0 ≡ None → (p : ℕ) → opens_of a (m ∷ ms) (Some v ∷ rs) (b ∷ bs) p ≡ None
unfolding open_bits
first_none a m ms v rs true bs e h p = ap (λ o. go_on (open_bits a o p) (opens_of a ms rs bs) p) h
first_none a m ms v rs false bs e h p = absurd cc

pub refused_addition : (e : EncodeError) (ps : Parts) (x : WriterState) (codec : Codec) (rs : List (Option Value)) (k : Additions) → Gathering x codec k (part_count ps) → RefusesAdditions encoder_rules e ps x rs → RefusedAddition e codec ps rs
unfolding canon bitmap_of
refused_addition e (part t q s ps) x codec (r ∷ rs) k h (refuses_addition (refuses_skipped i u)) = absurd (not_surplus h u)
refused_addition e (part t q s ps) x codec (Some v ∷ rs) k h (refuses_addition (refuses_added i (refuses_surplus u))) = absurd (not_surplus h u)
refused_addition e (part t q s ps) x codec (Some v ∷ rs) k h (refuses_addition (refuses_added i (refuses_inside {i = m} b w))) =
    let a = variant_of codec in
    let f : m.failed ≡ false = ap (λ z. z.failed) b.opened.same ∙ h.unfailed in
    let c : m.codec ≡ codec = ap (λ z. z.codec) b.opened.same ∙ h.same in
    let there : shown q (Some v) ≡ Some true = addition_shown q (Some v) true i in
    record {
      s = s;
      v = v;
      m = m;
      has = part_here there;
      refused = w;
      unfailed = f;
      same = c;
      set = λ bs g. let d = some_both (shown q (Some v)) (bitmap_of (members a ps) rs) bs g in ap any_set d.4 ∙ ap (λ (y : Bool). y || any_set d.1) (inside (sym d.2 ∙ there));
      none = λ bs g p. let d = some_both (shown q (Some v)) (bitmap_of (members a ps) rs) bs g in
          subst (λ (cs : Bits). opens_of a (members a (part t q s ps)) (Some v ∷ rs) cs p ≡ None) (sym d.4)
          (first_none a (record { presence = q; writes = canon a s }) (members a ps) v rs d.0 d.1 (inside (sym d.2 ∙ there)) (ap (λ (y : Codec). canon (variant_of y) s v 0) (sym c) ∙ w.none f 0) p);
    }
refused_addition e (part t q s ps) x codec (r ∷ rs) k h (refuses_further {m = m} c w) =
    let a = variant_of codec in
    let o = given_one x m codec q s r k (part_count ps) h c in
    let d = refused_addition e ps m codec rs o.kept o.gathering w in
    record {
      s = d.s;
      v = d.v;
      m = d.m;
      has = part_after d.has;
      refused = d.refused;
      unfailed = d.unfailed;
      same = d.same;
      set = λ bs g. let f = some_both (shown q r) (bitmap_of (members a ps) rs) bs g in ap any_set f.4 ∙ after_set f.0 f.1 (d.set f.1 f.3);
      none = λ bs g p. let f = some_both (shown q r) (bitmap_of (members a ps) rs) bs g in
          subst (λ (cs : Bits). opens_of a (members a (part t q s ps)) (r ∷ rs) cs p ≡ None) (sym f.4) (none_after_one a (record { presence = q; writes = canon a s }) (members a ps) r rs f.0 f.1 (d.none f.1 f.3) p);
    }
refused_addition e no_parts x codec rs k h c = elim c [ ]
refused_addition e (part t q s ps) x codec [] k h c = elim c [ ]
