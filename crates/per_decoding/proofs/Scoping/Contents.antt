-- The laws of the decoder's octets that contain a value: what they contain is what is read in them, up to their end
-- (X.682, 11; X.691, 11.2); and what is read in any open type.
use Rattle.std.proofs.Common.{◌≡◌, ◌∙◌, ◌≤◌, refl, sym, ap, subst, arith, ℕ, false, length, length-append}
use Rattle.rasn_types.specs.Bits.{Bits, unpack}
use Rattle.rasn_types.specs.Values.{Value}
use Rattle.rasn_schema.specs.Schemas.{Schema}
use Rattle.rasn_traits.specs.Contents.{ContentsWell}
use Rattle.per_core.specs.Spellings.{Settings, Took}
use Rattle.per_core.specs.Basic.{basic, basic_in, Fills, Octets, Open}
use Rattle.per_core.specs.declared.decode_error.DecodeError.{DecodeError}
use Rattle.per_core.specs.declared.decode_error.DecodeErrorKind.{DecodeErrorKind}
use Rattle.per_core.specs.declared.decode_error.DecodeErrorKind.TheVariants.{OutOfMemory}
use Rattle.per_read.specs.Ends.{EndsAs}
use Rattle.per_core.specs.Ends.{IsOfEnd}
use Rattle.per_read.proofs.Opened.{open_took, took_open}
use Rattle.per_decoding.proofs.Scoping.Additions.{new_why}
use Rattle.per_decoding.specs.Additions.{ClosesAddition, OpensContaining, OpensContents, OutsideAddition}
use Rattle.per_decoding.specs.Additions.{with_outside_addition}
use Rattle.per_decoding.specs.Faults.{Fault, UnendedAddition, refusal}
use Rattle.per_core.specs.ReadingFaults.{IsInBits, IsInOpen, at_their_end, in_containing, in_contents}
use Rattle.per_decoding.proofs.Scoping.Records.{IsNew, in_bits, is_new, of_bits}
use Rattle.per_decoding.specs.Rules.{plain_rules}
use Rattle.per_decoding.proofs.Scoping.Spelled.{spelled}
use Rattle.per_decoding.specs.State.{State, Spells, settings_of, with_bits, Source}

pub moved : {a b : Settings} {k : DecodeErrorKind} {c : Schema} {m : Bits} → a ≡ b → IsInBits a k c m → IsInBits b k c m
moved {k = k} {c} {m} e h = subst (λ z. IsInBits z k c m) e h

-- an open type that was opened
module _ (a : Settings) (c : Schema) {m i : State} {w : OutsideAddition} (f : OpensContents m w i)
    (e : settings_of m ≡ a) where
  octets_took : Took (Octets a f.octets) m.bits w.bits
  octets_took = subst (λ z. Took (Octets z f.octets) m.bits w.bits) e f.took

  inner_settings : settings_of i ≡ a
  inner_settings = ap settings_of f.enters.same ∙ e

  whole : w.total ≡ length (unpack f.octets)
  whole = ap (λ z. z.total) f.enters.waits

  contents_took : (v : Value) (j : State) → Spells c i v j → Took (basic a c v) (unpack f.octets) j.bits
  contents_took v j h = subst (λ z. Took (basic a c v) z j.bits) f.enters.inside
      (subst (λ z. Took (basic z c v) i.bits j.bits) inner_settings h.took)

  -- a fault in the contents
  pub of_contents : (k : DecodeErrorKind) → IsInBits (settings_of i) k c i.bits → IsInOpen a k c m.bits
  of_contents k h = in_contents f.octets octets_took (subst (λ z. IsInBits a k c z) f.enters.inside
      (moved inner_settings h))

  -- at their end
  pub of_end : (v : Value) (err : DecodeError) (j : State) → Spells c i v j → UnendedAddition w err j
      → IsInOpen a err.kind c m.bits × IsNew err.kind
  of_end v err j h u =
      let k : settings_of j ≡ a = ap settings_of h.same ∙ inner_settings in
      let q = contents_took v j h in
      let less : length j.bits ≤ w.total = omega (arith, whole, ap length q.joins, length-append q.front j.bits) in
      let y : IsOfEnd (settings_of j) j.bits w.total err.kind = u.stands less in
      let x : IsOfEnd a j.bits (length (unpack f.octets)) err.kind =
      subst (λ (z : ℕ). IsOfEnd a j.bits z err.kind) whole (subst (λ z. IsOfEnd z j.bits w.total err.kind) k y) in
      (at_their_end f.octets v octets_took q x, subst IsNew (sym y.names) (new_why y.why))

  -- the open type, where the contents end
  pub opened : (v : Value) (j : State) → Spells c i v j → EndsAs (settings_of j) j.bits w.total
      → Took (Open a (Fills a (basic a c v))) m.bits w.bits
  opened v j h n =
      let k : settings_of j ≡ a = ap settings_of h.same ∙ inner_settings in
      open_took a (basic a c v) f.octets octets_took j.bits (contents_took v j h)
      (subst (λ (z : ℕ). EndsAs a j.bits z) whole (subst (λ z. EndsAs z j.bits w.total) k n))

  -- contents of an open type that are read up to their end: the bits of the value, and what is left, which ends them
  pub record Contents (v : Value) (t : Bits) : Type 0 where
    pub same : w.bits ≡ t
    pub left : Bits
    pub took : Took (basic (settings_of i) c v) i.bits left
    pub ends : EndsAs (settings_of i) left w.total

  pub back : (v : Value) (t : Bits) → Took (Open a (Fills a (basic a c v))) m.bits t → Contents v t
  back v t h =
      let q = took_open a (basic a c v) f.octets octets_took t h in
      record {
        same = q.0;
        left = q.1;
        took = subst (λ z. Took (basic z c v) i.bits q.1) (sym inner_settings)
            (subst (λ z. Took (basic a c v) z q.1) (sym f.enters.inside) q.2);
        ends = subst (λ z. EndsAs z q.1 w.total) (sym inner_settings)
            (subst (λ (z : ℕ). EndsAs a q.1 z) (sym whole) q.3);
      }

  -- what waited outside is back
  pub outside_again : with_outside_addition i w ≡ with_bits m w.bits
  outside_again = ap (λ z. with_outside_addition z w) f.enters.same
      ∙ ap (λ z. with_outside_addition (with_bits m w.bits) z) f.enters.waits

-- octets that contain a value are its open type
pub took_containing : (a : Settings) (c : Schema) (v : Value) {s t : Bits}
    → Took (basic a (Schema.containing c) v) s t → Took (Open a (Fills a (basic a c v))) s t
unfolding basic_in
took_containing a c v h = h

containing_took : (a : Settings) (c : Schema) (v : Value) {s t : Bits}
    → Took (Open a (Fills a (basic a c v))) s t → Took (basic a (Schema.containing c) v) s t
unfolding basic_in
containing_took a c v h = h

-- octets that contain a value, which were opened
module _ (c : Schema) {s i : State} {w : OutsideAddition} (h : OpensContaining s w i) where
  unfailed : i.failed ≡ false
  unfailed = ap (λ z. z.failed) h.opens.enters.same ∙ h.live

  same_codec : i.codec ≡ s.codec
  same_codec = ap (λ z. z.codec) h.opens.enters.same

  -- a fault in the value is one of what contains it
  of_contained : (e : DecodeError) → Fault c e i → Fault (Schema.containing c) e s
  of_contained e f =
      let n = is_new e.kind c i unfailed f.stands in
      let x = in_bits e.kind c i unfailed f.stands in
      record {
        codec = f.codec ∙ same_codec;
        stands = of_bits e.kind (Schema.containing c) s n
            (in_containing (of_contents (settings_of s) c h.opens refl e.kind x));
      }

  -- so is one at the end
  at_end_of : (j : State) (v : Value) (e : DecodeError) → Spells c i v j → UnendedAddition w e j
      → Fault (Schema.containing c) e s
  at_end_of j v e b u =
      let x = of_end (settings_of s) c h.opens refl v e j b u in
      record {
        codec = u.codec ∙ ap (λ z. z.codec) b.same ∙ same_codec;
        stands = of_bits e.kind (Schema.containing c) s x.1 (in_containing x.0);
      }

  pub contained_read : (j t : State) (v : Value) → Spells c i v j → ClosesAddition j w t
      → Spells (Schema.containing c) s v t
  contained_read j t v b d =
      let e : t.bits ≡ w.bits = ap (λ z. z.bits) d.same in
      let x = opened (settings_of s) c h.opens refl v j b d.ends in
      spelled h.live (subst (λ z. Took (basic (settings_of s) (Schema.containing c) v) s.bits z) (sym e)
      (containing_took (settings_of s) c v x))
      (d.same ∙ ap (λ z. with_outside_addition z w) b.same ∙ outside_again (settings_of s) c h.opens refl
      ∙ ap (λ z. with_bits s z) (sym e))

  pub contained_back : (t : State) (v : Value) → Spells (Schema.containing c) s v t
      → (j : State) × Spells c i v j × ClosesAddition j w t
  contained_back t v b =
      let q = back (settings_of s) c h.opens refl v t.bits (took_containing (settings_of s) c v b.took) in (
        with_bits i q.left,
        spelled unfailed q.took refl,
        record {
          live = unfailed;
          ends = q.ends;
          same = b.same ∙ ap (λ z. with_bits s z) (sym q.same) ∙ sym (outside_again (settings_of s) c h.opens refl);
        },
      )

-- What octets contain is what is read in them, whatever a decoder keeps of what waits outside: of it and of the bits in
-- which those left stand, it is told what waits.
pub contents_well : {O : Type 0} (outside : Source → O → OutsideAddition)
    → ContentsWell plain_rules (λ o e s. UnendedAddition (outside s.source o) e s)
    (λ s o i. OpensContaining s (outside i.source o) i) (λ s o t. ClosesAddition s (outside s.source o) t)
contents_well outside = record {
  inside = λ s o i h. ap (λ z. z.failed) h.opens.enters.same ∙ h.live;
  level = λ s o i h. ap (λ z. z.levels) h.opens.enters.same;
  room = λ s o i e h m. m ∙ ap (λ z. refusal OutOfMemory z) h.opens.enters.same;
  in_contents = λ c s o i e h f. of_contained c h e f;
  at_end = λ c s i j o v e h b u. at_end_of c h j v e b
      (subst (λ z. UnendedAddition (outside z o) e j) (ap (λ z. z.source) b.same) u);
  contents_read = λ c s i j t o v h b d. contained_read c h j t v b
      (subst (λ z. ClosesAddition j (outside z o) t) (ap (λ z. z.source) b.same) d);
  contents_back = λ c s i t o v h b. let r = contained_back c h t v b in
      (r.0, r.1, subst (λ z. ClosesAddition r.0 (outside z o) t) (sym (ap (λ z. z.source) r.1.same)) r.2);
}
