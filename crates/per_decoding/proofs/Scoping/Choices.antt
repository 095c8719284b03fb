-- The laws of the decoder's choices: a choice is its index, and the alternative at that place, which is after an
-- extension marker in an open type (X.691 23).
use Rattle.std.proofs.Common.{◌≡◌, ◌∙◌, ◌<◌, inl, inr, refl, sym, ap, subst, arith, ℕ, zero, suc, Bool, false}
use Rattle.std.proofs.Common.{List, length, Option, Some, None}
use Rattle.rasn_types.specs.Bits.{Bits}
use Rattle.rasn_types.specs.Values.{Value, alternative, item, Side, root, added}
use Rattle.rasn_schema.specs.Structures.{alternative_at, alternative_in, choice_schema, tags_of}
use Rattle.rasn_schema.specs.Schemas.{Schema, Parts, no_parts, part}
use Rattle.rasn_traits.specs.Choices.{ChoicesWell, ReadsAlternative}
use Rattle.per_core.specs.Spellings.{Settings, Spelling, Took, NoneIn}
use Rattle.per_core.specs.Basic.{basic, basic_in, rules, rules_in, Choice, Chosen, Fills, IsConstrainedWhole, Octets}
use Rattle.per_core.specs.Basic.{Open, Small}
use Rattle.per_core.proofs.Readings.{one_reading}
use Rattle.per_core.proofs.TakenInTurn.{took_then, then_took, took_map, took_agree}
use Rattle.per_core.specs.IndexFaults.{index_form}
use Rattle.per_core.specs.declared.decode_error.DecodeError.{DecodeError}
use Rattle.per_core.specs.declared.decode_error.DecodeErrorKind.TheVariants.{OutOfMemory}
use Rattle.per_read.proofs.Opened.{no_open}
use Rattle.per_decoding.proofs.Scoping.Contents.{back, moved, of_contents, of_end, opened, outside_again}
use Rattle.per_decoding.specs.Additions.{OutsideAddition, with_outside_addition}
use Rattle.per_decoding.specs.Choices.{OutsideChoice, ClosesChoice, EndsFrom, OpensChoice, StandsFrom, UnendedChoice}
use Rattle.per_decoding.specs.Faults.{Fault}
use Rattle.per_core.specs.ReadingFaults.{IsInBits, in_added_alternative, in_alternative}
use Rattle.per_decoding.proofs.Scoping.Records.{in_bits, is_new, of_bits}
use Rattle.per_decoding.specs.Rules.{plain_rules}
use Rattle.per_decoding.specs.Scopes.{with_outside_record}
use Rattle.per_decoding.proofs.Scoping.Spelled.{spelled}
use Rattle.per_decoding.specs.State.{State, Spells, settings_of, with_bits, Source}

length-rules : (a : Settings) (ps : Parts) → length (rules a ps) ≡ length (tags_of ps)
unfolding rules_in
length-rules a no_parts = refl
length-rules a (part t p s ps) = ap suc (length-rules a ps)

chosen_at : (a : Settings) (ps : Parts) (k : ℕ) (c : Schema) (v : Value) → alternative_at ps k ≡ Some c
    → Chosen (rules a ps) k v ≡ basic a c v
unfolding rules_in
chosen_at a no_parts k c v e = absurd cc
chosen_at a (part t p d ps) zero c v e = let i : d ≡ c = cc in ap (λ z. basic a z v) i
chosen_at a (part t p d ps) (suc k) c v e = chosen_at a ps k c v e

-- an alternative whose value fills octets is one of those there
chosen_below : (a : Settings) (ps : Parts) (i : ℕ) (v : Value) (os : List ℕ) → Fills a (Chosen (rules a ps) i v) os
    → i < length (tags_of ps)
unfolding rules_in
chosen_below a no_parts i v os (inl f) = absurd f.spelled
chosen_below a no_parts i v os (inr f) = absurd f.0
chosen_below a (part t p s ps) zero v os f = omega arith
chosen_below a (part t p s ps) (suc i) v os f = let h = chosen_below a ps i v os f in omega (arith, h)

-- the alternatives before the extension marker, or those after it
abbrev parts_on : Side → Parts → Parts → Parts
parts_on root ps qs = ps
parts_on added ps qs = qs

-- an alternative in place, or after an extension marker in an open type (X.691 23.7, 23.8)
abbrev Standing : Settings → Side → Spelling → Spelling
Standing a root f = f
Standing a added f = Open a (Fills a f)

standing_at : (a : Settings) (ps : Parts) (marker : Bool) (qs : Parts) (d : Side) (k : ℕ) (c : Schema) (v : Value)
    → alternative_in (choice_schema ps marker qs) d k ≡ Some c
    → Standing a d (Chosen (rules a (parts_on d ps qs)) k v) ≡ Standing a d (basic a c v)
standing_at a ps marker qs root k c v e = chosen_at a ps k c v e
standing_at a ps marker qs added k c v e = ap (λ f. Open a (Fills a f)) (chosen_at a qs k c v e)

-- the index of a choice of these alternatives
abbrev Index : Settings → Parts → Bool → Parts → Side → ℕ → Spelling
Index a ps marker qs d k = index_form a (length (tags_of ps)) (length (tags_of qs)) marker (d, k)

-- an index is one
index_one : (a : Settings) (r e : ℕ) (ext : Bool) (d b : Side) (i j : ℕ) {s m n : Bits}
    → Took (index_form a r e ext (d, i)) s m → Took (index_form a r e ext (b, j)) s n → (d ≡ b) × (i ≡ j) × (m ≡ n)
unfolding basic_in
index_one a r e ext d b i j {s} {m} {n} h k =
    let x : Took (basic a (Schema.items r e ext) (item d i)) s m =
    took_map (λ p c y. record { of = (d, i); is = refl; spelled = y }) h in
    let y : Took (basic a (Schema.items r e ext) (item b j)) s n =
    took_map (λ p c y. record { of = (b, j); is = refl; spelled = y }) k in
    let q = took_agree (one_reading a (Schema.items r e ext) (item d i) (item b j)) x y in
    let same : item d i ≡ item b j = q.0 in
    (cc, cc, q.1)

-- a choice as its index and its alternative
choice_took : (a : Settings) (ps : Parts) (marker : Bool) (qs : Parts) (d : Side) (k : ℕ) (c : Schema) (v : Value)
    {s m t : Bits} → alternative_in (choice_schema ps marker qs) d k ≡ Some c
    → Took (Index a ps marker qs d k) s m → Took (Standing a d (basic a c v)) m t
    → Took (basic a (choice_schema ps marker qs) (alternative d k v)) s t
unfolding basic_in rules_in
choice_took a ps marker qs root k c v {s} {m} {t} e h b =
    let q = then_took h in
    let index : Took (IsConstrainedWhole a (length (rules a ps)) k) q.0 m =
    subst (λ (n : ℕ). Took (IsConstrainedWhole a n k) q.0 m) (sym (length-rules a ps)) q.2 in
    let body : Took (Chosen (rules a ps) k v) m t = subst (λ f. Took f m t) (sym (chosen_at a ps k c v e)) b in
    took_map (λ p d y. record { of = (root, k, v); is = refl; spelled = y }) (took_then q.1 (took_then index body))
choice_took a ps marker qs added k c v {s} {m} {t} e h b =
    let q = then_took h in
    let index : Took (Small a k) q.0 m = took_map (λ p d y. y.spelled) q.2 in
    let body : Took (Open a (Fills a (Chosen (rules a qs) k v))) m t = subst (λ f. Took (Open a (Fills a f)) m t)
    (sym (chosen_at a qs k c v e)) b in
    took_map (λ p d y. record { of = (added, k, v); is = refl; spelled = y }) (took_then q.1 (took_then index body))

-- what a choice took
pub record TookChoice (a : Settings) (ps : Parts) (marker : Bool) (qs : Parts) (w : Value) (s t : Bits) : Type 0 where
  pub side : Side
  pub index : ℕ
  pub value : Value
  pub is : w ≡ alternative side index value
  pub middle : Bits
  pub placed : Took (index_form a (length (tags_of ps)) (length (tags_of qs)) marker (side, index)) s middle
  body : Took (Standing a side (Chosen (rules a (parts_on side ps qs)) index value)) middle t

pub took_choice : (a : Settings) (ps : Parts) (marker : Bool) (qs : Parts) (w : Value) {s t : Bits}
    → Took (basic a (choice_schema ps marker qs) w) s t → TookChoice a ps marker qs w s t
unfolding basic_in rules_in
took_choice a ps marker qs w {s} {t} b = go (b.spelled.of).0 (b.spelled.of).1 (b.spelled.of).2 b.spelled.is
    (record { front = b.front; joins = b.joins; spelled = b.spelled.spelled })
  where
    go : (d : Side) (i : ℕ) (v : Value) → w ≡ alternative d i v → Took
        (Choice a marker (rules a ps) (rules a qs) d i v) s t → TookChoice a ps marker qs w s t
    go root i v f x =
        let q = then_took x in
        let r = then_took q.2 in
        record {
          side = root;
          index = i;
          value = v;
          is = f;
          middle = r.0;
          placed = took_then q.1 (subst (λ (l : ℕ). Took (IsConstrainedWhole a l i) q.0 r.0) (length-rules a ps) r.1);
          body = r.2;
        }
    go added i v f x =
        let q = then_took x in
        let r = then_took q.2 in
        let below : i < length (tags_of qs) = chosen_below a qs i v r.2.spelled.octets r.2.spelled.are in
        record {
          side = added;
          index = i;
          value = v;
          is = f;
          middle = r.0;
          placed = took_then q.1 (took_map (λ p c y. record { known = below; spelled = y }) r.1);
          body = r.2;
        }

-- what is read after the index
record Inside (a : Settings) (d : Side) (k : ℕ) (c : Schema) (w : Value) (m t : Bits) : Type 0 where
  v : Value
  is : w ≡ alternative d k v
  took : Took (Standing a d (basic a c v)) m t

inside_of : (a : Settings) (ps : Parts) (marker : Bool) (qs : Parts) (d : Side) (k : ℕ) (c : Schema) (w : Value)
    {s m t : Bits} → alternative_in (choice_schema ps marker qs) d k ≡ Some c → Took (Index a ps marker qs d k) s m
    → Took (basic a (choice_schema ps marker qs) w) s t → Inside a d k c w m t
inside_of a ps marker qs d k c w {s} {m} {t} e h b =
    let q = took_choice a ps marker qs w b in
    let g = index_one a (length (tags_of ps)) (length (tags_of qs)) marker q.side d q.index k q.placed h in
    let x : Took (Standing a d (Chosen (rules a (parts_on d ps qs)) q.index q.value)) q.middle t =
    subst (λ z. Took (Standing a z (Chosen (rules a (parts_on z ps qs)) q.index q.value)) q.middle t) g.0 q.body in
    let y : Took (Standing a d (Chosen (rules a (parts_on d ps qs)) k q.value)) q.middle t =
    subst (λ (z : ℕ). Took (Standing a d (Chosen (rules a (parts_on d ps qs)) z q.value)) q.middle t) g.1 x in
    let z : Took (Standing a d (Chosen (rules a (parts_on d ps qs)) k q.value)) m t =
    subst (λ l. Took (Standing a d (Chosen (rules a (parts_on d ps qs)) k q.value)) l t) g.2 y in
    record {
      v = q.value;
      is = q.is ∙ ap (λ l. alternative l q.index q.value) g.0 ∙ ap (λ (l : ℕ). alternative d l q.value) g.1;
      took = subst (λ f. Took f m t) (standing_at a ps marker qs d k c q.value e) z;
    }

-- where no index stands, there is no choice
pub no_index : (a : Settings) (ps : Parts) (marker : Bool) (qs : Parts) {s : Bits}
    → NoneIn (index_form a (length (tags_of ps)) (length (tags_of qs)) marker) s → (w : Value) (t : Bits)
    → Took (basic a (choice_schema ps marker qs) w) s t → ⊥
no_index a ps marker qs none w t b = let q = took_choice a ps marker qs w b in none (q.side, q.index) q.middle q.placed

-- nor where after that of an alternative after the extension marker no octets stand
pub no_contents : (a : Settings) (ps : Parts) (marker : Bool) (qs : Parts) (k : ℕ) {s m : Bits}
    → Took (index_form a (length (tags_of ps)) (length (tags_of qs)) marker (added, k)) s m → NoneIn (Octets a) m
    → (w : Value) (t : Bits) → Took (basic a (choice_schema ps marker qs) w) s t → ⊥
no_contents a ps marker qs k {s} {m} h none w t b =
    let q = took_choice a ps marker qs w b in
    let g = index_one a (length (tags_of ps)) (length (tags_of qs)) marker q.side added q.index k q.placed h in
    let x : Took (Standing a added (Chosen (rules a (parts_on added ps qs)) q.index q.value)) q.middle t =
    subst (λ z. Took (Standing a z (Chosen (rules a (parts_on z ps qs)) q.index q.value)) q.middle t) g.0 q.body in
    no_open a (Fills a (Chosen (rules a qs) q.index q.value)) none t
    (subst (λ l. Took (Open a (Fills a (Chosen (rules a qs) q.index q.value))) l t) g.2 x)

-- what a state keeps of another
record Alike (i m : State) : Type 0 where
  failed : i.failed ≡ m.failed
  levels : i.levels ≡ m.levels
  settings : settings_of i ≡ settings_of m
  codec : i.codec ≡ m.codec

alike : (d : Side) (o : Option OutsideAddition) (m i : State) → StandsFrom d m o i → Alike i m
alike root None m i f = record {
  failed = ap (λ z. z.failed) f;
  levels = ap (λ z. z.levels) f;
  settings =
      ap settings_of f;
  codec = ap (λ z. z.codec) f;
}
alike root (Some w) m i f = absurd f
alike added None m i f = absurd f
alike added (Some w) m i f =
    let e = f.enters.same in
    record {
      failed = ap (λ z. z.failed) e;
      levels = ap (λ z. z.levels) e;
      settings = ap settings_of e;
      codec =
          ap (λ z. z.codec) e;
    }

-- a choice that was opened
module _ (ps : Parts) (marker : Bool) (qs : Parts) (d : Side) (k : ℕ) (c : Schema) {s i : State} {w : OutsideChoice}
    (h : OpensChoice (choice_schema ps marker qs) d k s w i)
    (e : alternative_in (choice_schema ps marker qs) d k ≡ Some c) where
  middle_settings : settings_of h.middle ≡ settings_of s
  middle_settings = ap settings_of h.enters.same

  unfailed : i.failed ≡ false
  unfailed = (alike d w.contents h.middle i h.stands).failed ∙ ap (λ z. z.failed) h.enters.same ∙ h.live

  -- what is the same inside comes back after the level
  given_back : (t : Bits) → with_outside_record (with_bits h.middle t) w.outer ≡ with_bits s t
  given_back t = ap (λ z. with_outside_record (with_bits z t) w.outer) h.enters.same
      ∙ ap (λ z. with_outside_record (with_bits s t) z) h.enters.waits

  -- a fault in the alternative is one of the choice
  of_alternative : (err : DecodeError) → Fault c err i → Fault (choice_schema ps marker qs) err s
  of_alternative err f =
      let b = alike d w.contents h.middle i h.stands in
      let n = is_new err.kind c i unfailed f.stands in
      let x = in_bits err.kind c i unfailed f.stands in
      record {
        codec = f.codec ∙ b.codec ∙ ap (λ z. z.codec) h.enters.same;
        stands = of_bits err.kind (choice_schema ps marker qs) s n (go d w.contents h.stands h.took e x);
      }
    where
      go : (d : Side) (o : Option OutsideAddition) → StandsFrom d h.middle o i
          → Took (Index (settings_of s) ps marker qs d k) s.bits h.middle.bits
          → alternative_in (choice_schema ps marker qs) d k ≡ Some c
          → IsInBits (settings_of i) err.kind c i.bits → IsInBits (settings_of s) err.kind
          (choice_schema ps marker qs) s.bits
      go root None f t a x = in_alternative t a (subst (λ z. IsInBits (settings_of s) err.kind c z)
          (ap (λ z. z.bits) f) (moved (ap settings_of f ∙ middle_settings) x))
      go root (Some q) f t a x = absurd f
      go added None f t a x = absurd f
      go added (Some q) f t a x = in_added_alternative t a (of_contents (settings_of s) c f middle_settings err.kind x)

  -- so is one at its end
  at_end_of : (j : State) (v : Value) (err : DecodeError) → Spells c i v j → UnendedChoice w.contents err j
      → Fault (choice_schema ps marker qs) err s
  at_end_of j v err b u = go d w.contents h.stands h.took e u
    where
      go : (d : Side) (o : Option OutsideAddition) → StandsFrom d h.middle o i
          → Took (Index (settings_of s) ps marker qs d k) s.bits h.middle.bits
          → alternative_in (choice_schema ps marker qs) d k ≡ Some c
          → UnendedChoice o err j → Fault (choice_schema ps marker qs) err s
      go root None f t a u = absurd u
      go root (Some q) f t a u = absurd f
      go added None f t a u = absurd f
      go added (Some q) f t a u =
          let x = of_end (settings_of s) c f middle_settings v err j b u in
          record {
            codec = u.codec ∙ ap (λ z. z.codec) b.same ∙ ap (λ z. z.codec) f.enters.same
                ∙ ap (λ z. z.codec) h.enters.same;
            stands = of_bits err.kind (choice_schema ps marker qs) s x.1 (in_added_alternative t a x.0);
          }

  -- the bits after the alternative, and the state
  record Ended (v : Value) (t : State) : Type 0 where
    rest : Bits
    took : Took (Standing (settings_of s) d (basic (settings_of s) c v)) h.middle.bits rest
    same : t ≡ with_bits s rest

  ended_of : (j t : State) (v : Value) → Spells c i v j → ClosesChoice j w t → Ended v t
  ended_of j t v b z = record { rest = (x.0); took = x.1; same = z.same ∙ x.2 ∙ given_back x.0 }
    where
      go : (d : Side) (o : Option OutsideAddition) (n : State) → StandsFrom d h.middle o i → EndsFrom j o n
          → (l : Bits) × Took (Standing (settings_of s) d (basic (settings_of s) c v)) h.middle.bits l
          × (with_outside_record n w.outer ≡ with_outside_record (with_bits h.middle l) w.outer)
      go root None n f g = (
        j.bits,
        subst (λ z. Took (basic (settings_of s) c v) z j.bits) (ap (λ z. z.bits) f)
            (subst (λ z. Took (basic z c v) i.bits j.bits) (ap settings_of f ∙ middle_settings) b.took),
        ap (λ z. with_outside_record z w.outer) g ∙ ap (λ z. with_outside_record z w.outer) b.same
            ∙ ap (λ z. with_outside_record (with_bits z j.bits) w.outer) f,
      )
      go root (Some q) n f g = absurd f
      go added None n f g = absurd f
      go added (Some q) n f g = (
        q.bits,
        opened (settings_of s) c f middle_settings v j b g.0,
        ap (λ z. with_outside_record z w.outer) g.1
            ∙ ap (λ z. with_outside_record (with_outside_addition z q) w.outer) b.same
            ∙ ap (λ z. with_outside_record z w.outer) (outside_again (settings_of s) c f middle_settings),
      )

      x : (l : Bits) × Took (Standing (settings_of s) d (basic (settings_of s) c v)) h.middle.bits l
          × (with_outside_record z.middle w.outer ≡ with_outside_record (with_bits h.middle l) w.outer)
      x = go d w.contents z.middle h.stands z.ends

  read_of : (j t : State) (v : Value) → Spells c i v j → ClosesChoice j w t
      → Spells (choice_schema ps marker qs) s (alternative d k v) t
  read_of j t v b z =
      let x = ended_of j t v b z in
      let f : t.bits ≡ x.rest = ap (λ l. l.bits) x.same in
      spelled h.live (subst (λ l. Took (basic (settings_of s) (choice_schema ps marker qs)
      (alternative d k v)) s.bits l)
      (sym f) (choice_took (settings_of s) ps marker qs d k c v e h.took x.took))
      (x.same ∙ ap (λ l. with_bits s l) (sym f))

  back_of : (t : State) (v : Value) → Spells (choice_schema ps marker qs) s v t
      → (j : State) × ReadsAlternative plain_rules d k c i v j × ClosesChoice j w t
  back_of t v b =
      let q = inside_of (settings_of s) ps marker qs d k c v e h.took b.took in
      let x = go d w.contents h.stands q.v q.took in (
        with_bits i x.0,
        (q.v, q.is, spelled unfailed x.1 refl),
        record { live = unfailed; middle = x.2; ends = x.3; same = b.same ∙ sym (x.4 ∙ given_back t.bits) },
      )
    where
      go : (d : Side) (o : Option OutsideAddition) → StandsFrom d h.middle o i → (u : Value)
          → Took (Standing (settings_of s) d (basic (settings_of s) c u)) h.middle.bits t.bits
          → (l : Bits) × Took (basic (settings_of i) c u) i.bits l × (n : State) × EndsFrom (with_bits i l) o n
          × (with_outside_record n w.outer ≡ with_outside_record (with_bits h.middle t.bits) w.outer)
      go root None f u y = (
        t.bits,
        subst (λ z. Took (basic (settings_of i) c u) z t.bits) (sym (ap (λ z. z.bits) f))
            (subst (λ z. Took (basic z c u) h.middle.bits t.bits) (sym (ap settings_of f ∙ middle_settings)) y),
        with_bits i t.bits,
        refl,
        ap (λ z. with_outside_record (with_bits z t.bits) w.outer) f,
      )
      go root (Some q) f u y = absurd f
      go added None f u y = absurd f
      go added (Some q) f u y =
          let r = back (settings_of s) c f middle_settings u t.bits y in (
            r.left,
            r.took,
            with_outside_addition (with_bits i r.left) q,
            (r.ends, refl),
            ap (λ z. with_outside_record z w.outer) (outside_again (settings_of s) c f middle_settings)
                ∙ ap (λ z. with_outside_record (with_bits h.middle z) w.outer) r.same,
          )

-- a fault of an alternative is one of any schema that has such an alternative: it is a choice
fault_of : (c : Schema) (d : Side) (k : ℕ) (a : Schema) {s i : State} {w : OutsideChoice} (h : OpensChoice c d k s w i)
    → alternative_in c d k ≡ Some a → (err : DecodeError) → Fault a err i → Fault c err s
fault_of (Schema.choice ps qs marker) d k a h e err f = of_alternative ps marker qs d k a h e err f
fault_of _ d k a h e err f = absurd cc

end_of : (c : Schema) (d : Side) (k : ℕ) (a : Schema) {s i : State} {w : OutsideChoice} (h : OpensChoice c d k s w i)
    → alternative_in c d k ≡ Some a → (j : State) (v : Value) (err : DecodeError)
    → Spells a i v j → UnendedChoice w.contents err j → Fault c err s
end_of (Schema.choice ps qs marker) d k a h e j v err b u = at_end_of ps marker qs d k a h e j v err b u
end_of _ d k a h e j v err b u = absurd cc

pub spells_of : (c : Schema) (d : Side) (k : ℕ) (a : Schema) {s i : State} {w : OutsideChoice}
    (h : OpensChoice c d k s w i)
    → alternative_in c d k ≡ Some a → (j t : State) (v : Value)
    → Spells a i v j → ClosesChoice j w t → Spells c s (alternative d k v) t
spells_of (Schema.choice ps qs marker) d k a h e j t v b z = read_of ps marker qs d k a h e j t v b z
spells_of _ d k a h e j t v b z = absurd cc

pub back_to : (c : Schema) (d : Side) (k : ℕ) (a : Schema) {s i : State} {w : OutsideChoice}
    (h : OpensChoice c d k s w i)
    → alternative_in c d k ≡ Some a → (t : State) (v : Value)
    → Spells c s v t → (j : State) × ReadsAlternative plain_rules d k a i v j × ClosesChoice j w t
back_to (Schema.choice ps qs marker) d k a h e t v b = back_of ps marker qs d k a h e t v b
back_to _ d k a h e t v b = absurd cc

begun_unfailed : (c : Schema) (d : Side) (k : ℕ) {s i : State} {w : OutsideChoice} → OpensChoice c d k s w i
    → i.failed ≡ false
begun_unfailed c d k {i = i} {w = w} h = (alike d w.contents h.middle i h.stands).failed
    ∙ ap (λ z. z.failed) h.enters.same ∙ h.live

same_codec : (c : Schema) (d : Side) (k : ℕ) {s i : State} {w : OutsideChoice} → OpensChoice c d k s w i
    → i.codec ≡ s.codec
same_codec c d k {i = i} {w = w} h = (alike d w.contents h.middle i h.stands).codec ∙ ap (λ z. z.codec) h.enters.same

-- the level inside
pub level_inside : (c : Schema) (d : Side) (k : ℕ) {s i : State} {w : OutsideChoice} → OpensChoice c d k s w i
    → s.levels ≡ suc i.levels
level_inside c d k {i = i} {w = w} h = h.deeper ∙ ap suc (sym (alike d w.contents h.middle i h.stands).levels)

-- A choice is what is after its index, whatever a decoder keeps of what waits outside: of it and of the bits in
-- which those left stand, it is told what waits.
pub choices_well : {O : Type 0} (outside : Source → O → OutsideChoice)
    → ChoicesWell plain_rules (λ o e s. UnendedChoice (outside s.source o).contents e s)
    (λ c d k s o i. OpensChoice c d k s (outside i.source o) i) (λ s o t. ClosesChoice s (outside s.source o) t)
choices_well outside = record {
  inside = λ c d k s o i h. begun_unfailed c d k h;
  room = λ c d k s o i e h m. m ∙ ap (λ z. record { kind = OutOfMemory; codec = z }) (same_codec c d k h);
  in_alternative = λ c d k a s o i e h p f. fault_of c d k a h p e f;
  at_end = λ c d k a s i j o v e h p b u. end_of c d k a h p j v e b
      (subst (λ z. UnendedChoice (outside z o).contents e j) (ap (λ z. z.source) b.same) u);
  choice_read = λ c d k a s i j t o v h p b z. spells_of c d k a h p j t v b
      (subst (λ l. ClosesChoice j (outside l o) t) (ap (λ l. l.source) b.same) z);
  choice_back = λ c d k a s i t o v h p b.
      let r = back_to c d k a h p t v b in
      (r.0, r.1, subst (λ l. ClosesChoice r.0 (outside l o) t) (sym (ap (λ l. l.source) r.1.2.same)) r.2);
}
