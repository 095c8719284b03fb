-- The laws of the decoder's scopes: a record is its extension bit and its presence bits, its root components one after
-- another, the bitmap of its additions, these, and those that the schema doesn't know (X.691 19).
use Rattle.std.proofs.Common.{◌≡◌, ◌∙◌, ◌⊎◌, inl, inr, refl, sym, ap, subst, Bool, true, false, List, [], ◌∷◌, ◌++◌}
use Rattle.std.proofs.Common.{Option, arith}
use Rattle.rasn_types.specs.Bits.{Bits}
use Rattle.rasn_types.specs.Values.{Value}
use Rattle.rasn_schema.specs.Structures.{record_value, extended}
use Rattle.rasn_schema.specs.Schemas.{Parts, no_parts, count}
use Rattle.rasn_traits.specs.AdditionsRead.{ReadsAdditions}
use Rattle.rasn_traits.specs.Scopes.{ReadsParts, ReadsFields, reads_fields, FaultyFields, faulty_root}
use Rattle.rasn_traits.specs.Scopes.{faulty_after_root, ScopesWell}
use Rattle.per_core.specs.Spellings.{Settings, Then, exactly, Took}
use Rattle.per_core.specs.Basic.{basic, basic_in, rules, rules_in, Additions, Bodies, Extended, ExtensionBit, Record}
use Rattle.per_core.specs.Basic.{Flags, Root, Rule, Unknown}
use Rattle.per_core.proofs.SpellingsAgree.{Agree, weaken, agree_never, empty_agree, exactly_agree, never_agree}
use Rattle.per_core.proofs.TakenInTurn.{took_then, then_took, took_map, took_nothing, nothing_took, took_agree}
use Rattle.per_read.proofs.Fields.{either_took, when_took}
use Rattle.per_core.specs.declared.decode_error.DecodeError.{DecodeError}
use Rattle.per_core.specs.declared.decode_error.DecodeErrorKind.TheVariants.{OutOfMemory}
use Rattle.per_read.proofs.Records.{extended_took, plain_took}
use Rattle.per_core.specs.AdditionFaults.{Shown, extension_of}
use Rattle.per_decoding.specs.Faults.{Fault, IsOfEnding, unread, unskipped, Unended, refusal}
use Rattle.per_core.specs.ReadingFaults.{IsInTail, in_root, after_root}
use Rattle.per_decoding.proofs.Scoping.Records.{IsNew, exact_took, faulty_in, flags_off, no_more, of_bits, parts_back, read}
use Rattle.per_decoding.proofs.Scoping.Records.{with_rest}
use Rattle.per_decoding.specs.Rules.{plain_rules}
use Rattle.per_decoding.specs.Scopes.{OutsideRecord, with_outside_record, Opens, Closes}
use Rattle.per_decoding.proofs.Scoping.Spelled.{spelled}
use Rattle.per_decoding.specs.State.{State, Spells, settings_of, with_bits, Source}
use Rattle.per_decoding.proofs.Scoping.Tails.{ending_new, Left, Tail, after_additions, faulty_tail, left_of, tail_of}
use Rattle.per_decoding.proofs.Scoping.Tails.{turns_of}

-- a record after its extension bit
fields_took : (a : Settings) (marker extends : Bool) (rs adds : List Rule) (ss xs : List (Option Value))
    {s m n r t : Bits} (flags : List Bool) → Took (ExtensionBit marker extends) s m → Took (Root rs ss) m n
    → Took (Shown a (extension_of extends) flags) n r → Took (Additions a adds xs flags) r t
    → Took (Record a marker rs adds ss xs) s t
fields_took a true true rs adds ss xs {t = t} flags b o x y = subst (λ z. Took (Record a true rs adds ss xs) z t)
    (sym (exact_took b)) (extended_took a rs adds ss xs flags o x y)
fields_took a true false rs adds ss xs {n = n} {t = t} flags b o x y =
    let w = when_took x in
    let z : Took (Additions a adds xs []) n t = subst (λ f. Took (Additions a adds xs f) n t) w.0
    (subst (λ q. Took (Additions a adds xs flags) q t) (sym (nothing_took w.1)) y) in
    subst (λ q. Took (Record a true rs adds ss xs) q t) (sym (exact_took b)) (plain_took a rs adds ss xs o z)
fields_took a false false rs adds ss xs {s = s} {m = m} {n = n} {t = t} flags b o x y =
    let w = when_took x in
    let z : Took (Additions a adds xs []) n t = subst (λ f. Took (Additions a adds xs f) n t) w.0
    (subst (λ q. Took (Additions a adds xs flags) q t) (sym (nothing_took w.1)) y) in
    subst (λ q. Took (Record a false rs adds ss xs) q t) (sym (nothing_took b)) (took_then o z)
fields_took a false true rs adds ss xs flags b o x y = absurd b.spelled

-- what a record took
record TookFields (a : Settings) (marker : Bool) (rs adds : List Rule) (ss xs : List (Option Value))
    (s t : Bits) : Type 0 where
  extends : Bool
  middle : Bits
  behind : Bits
  bit : Took (ExtensionBit marker extends) s middle
  root : Took (Root rs ss) middle behind
  flags : List Bool
  end : Bits
  bitmap : Took (Shown a (extension_of extends) flags) behind end
  additions : Took (Additions a adds xs flags) end t

nothing_shown : (a : Settings) (s : Bits) → Took (Shown a (extension_of false) []) s s
nothing_shown a s = took_map (λ p b x. (refl, x)) (took_nothing s)

took_fields : (a : Settings) (marker : Bool) (rs adds : List Rule) (ss xs : List (Option Value)) {s t : Bits}
    → Took (Record a marker rs adds ss xs) s t → TookFields a marker rs adds ss xs s t
took_fields a false rs adds ss xs {s} h =
    let q = then_took h in
    record {
      extends = false;
      middle = s;
      behind = q.0;
      bit = took_nothing s;
      root = q.1;
      flags = [];
      end = q.0;
      bitmap = nothing_shown a q.0;
      additions = q.2;
    }
took_fields a true rs adds ss xs {s} {t} h = go (either_took h)
  where
    go : Took (Then (exactly (false ∷ [])) (Then (Root rs ss) (Additions a adds xs []))) s t
        ⊎ Took (Extended a rs adds ss xs) s t → TookFields a true rs adds ss xs s t
    go (inl y) =
        let q = then_took y in
        let w = then_took q.2 in
        record {
          extends = false;
          middle = q.0;
          behind = w.0;
          bit = q.1;
          root = w.1;
          flags = [];
          end = w.0;
          bitmap =
              nothing_shown a w.0;
          additions = w.2;
        }
    go (inr y) =
        let q = then_took (record { front = y.front; joins = y.joins; spelled = y.spelled.spelled }) in
        let w = then_took q.2 in
        let x = then_took w.2 in
        record {
          extends = true;
          middle = q.0;
          behind = w.0;
          bit = q.1;
          root = w.1;
          flags = y.spelled.flags;
          end = x.0;
          bitmap = x.1;
          additions = x.2;
        }

-- the extension bit is one
pub bit_agree : (marker b c : Bool) → Agree (b ≡ c) (ExtensionBit marker b) (ExtensionBit marker c)
bit_agree true b c = weaken (λ e. let f : b ∷ [] ≡ c ∷ [] = e in cc) (exactly_agree (b ∷ []) (c ∷ []) refl)
bit_agree false false false = weaken (λ u. refl) empty_agree
bit_agree false false true = agree_never
bit_agree false true c = never_agree

-- a record of root components and additions
record_took : (a : Settings) (ps : Parts) (marker extends : Bool) (qs : Parts) (rs xs : List (Option Value))
    {s m n t : Bits} → Took (ExtensionBit marker extends) s m → Took (Root (rules a ps) rs) m n
    → Tail a qs (extension_of extends) xs n t → Took (basic a (extended ps marker qs) (record_value rs xs)) s t
unfolding basic_in rules_in
record_took a ps marker extends qs rs xs {s} {m} {n} {t} b o y =
    took_map (λ p c z. record { of = (rs, xs); is = refl; spelled = z })
    (fields_took a marker extends (rules a ps) (rules a qs) rs xs y.flags b o y.taken y.additions)

-- what a record of root components and additions took
pub record TookRecord (a : Settings) (ps : Parts) (marker : Bool) (qs : Parts) (v : Value) (s t : Bits) : Type 0 where
  pub rs : List (Option Value)
  pub xs : List (Option Value)
  pub is : v ≡ record_value rs xs
  pub extends : Bool
  pub middle : Bits
  pub behind : Bits
  pub bit : Took (ExtensionBit marker extends) s middle
  pub root : Took (Root (rules a ps) rs) middle behind
  pub tail : Tail a qs (extension_of extends) xs behind t

pub took_record : (a : Settings) (ps : Parts) (marker : Bool) (qs : Parts) (v : Value) (s t : Bits)
    → Took (basic a (extended ps marker qs) v) s t → TookRecord a ps marker qs v s t
unfolding basic_in rules_in
took_record a ps marker qs v s t b =
    let x = b.spelled.of in
    let h : Took (Record a marker (rules a ps) (rules a qs) x.0 x.1) s t =
    record { front = b.front; joins = b.joins; spelled = b.spelled.spelled } in
    let w = took_fields a marker (rules a ps) (rules a qs) x.0 x.1 h in
    record {
      rs = x.0;
      xs = x.1;
      is = b.spelled.is;
      extends = w.extends;
      middle = w.middle;
      behind = w.behind;
      bit = w.bit;
      root = w.root;
      tail = record { flags = w.flags; middle = w.end; taken = w.bitmap; additions = w.additions };
    }

-- inside a record
module _ (ps : Parts) (marker : Bool) (qs : Parts) {s i : State} {w : OutsideRecord}
    (a : Opens (extended ps marker qs) s w i) where
  unfailed : i.failed ≡ false
  unfailed = ap (λ z. z.failed) a.enters.same ∙ a.live

  same_settings : settings_of i ≡ settings_of s
  same_settings = ap settings_of a.enters.same

  -- after the root components
  record Behind (rs : List (Option Value)) (m : State) : Type 0 where
    root : Took (Root (rules (settings_of s) ps) rs) (i.presences ++ i.bits) m.bits
    done : m.presences ≡ []
    same : m ≡ with_rest i m.bits []

  behind : (m : State) (rs : List (Option Value)) → ReadsParts plain_rules ps i rs m → Behind rs m
  behind m rs h =
      let r = read (settings_of s) ps i m rs same_settings h in
      let d : m.presences ≡ [] = no_more m.presences (let n = r.count in let c = a.presence_count in omega arith) in
      let flags : Took (Flags (rules (settings_of s) ps) r.shown) (i.presences ++ i.bits) i.bits =
      subst (λ q. Took (Flags (rules (settings_of s) ps) r.shown) (i.presences ++ i.bits) (q ++ i.bits)) d
      (r.flags i.bits) in
      record {
        root = took_map (λ p c y. record { shown = r.shown; spelled = y }) (took_then flags r.bodies);
        done = d;
        same = r.same ∙ ap (λ q. with_rest i m.bits q) d;
      }

  -- the additions are still to be asked for
  all_expected : {m : State} {rs : List (Option Value)} → Behind rs m → m.expected ≡ count qs
  all_expected h = ap (λ z. z.expected) h.same ∙ a.counts

  settings_after : {m : State} {rs : List (Option Value)} → Behind rs m → settings_of m ≡ settings_of s
  settings_after h = ap settings_of h.same ∙ same_settings

  bitmap_after : {m : State} {rs : List (Option Value)} → Behind rs m → m.extension ≡ extension_of a.extends
  bitmap_after h = ap (λ z. z.extension) h.same ∙ a.shows

  -- a fault after the root is one of the record
  of_tail : (e : DecodeError) (m : State) (rs : List (Option Value)) → Behind rs m → IsNew e.kind → e.codec ≡ m.codec
      → IsInTail (settings_of s) e.kind qs m.extension m.bits → Fault (extended ps marker qs) e s
  of_tail e m rs b n k h = record {
    codec = k ∙ ap (λ z. z.codec) b.same ∙ ap (λ z. z.codec) a.enters.same;
    stands = of_bits e.kind (extended ps marker qs) s n
        (after_root a.extends rs a.taken b.root (subst (λ z. IsInTail (settings_of s) e.kind qs z m.bits)
        (bitmap_after b) h));
  }

  in_part_of : (e : DecodeError) → FaultyFields plain_rules e ps qs i → Fault (extended ps marker qs) e s
  in_part_of e (faulty_root f) =
      let d = faulty_in (settings_of s) e ps i same_settings unfailed a.presence_count f in
      record {
        codec = d.codec ∙ ap (λ z. z.codec) a.enters.same;
        stands = of_bits e.kind (extended ps marker qs) s d.new
            (in_root a.extends d.shown a.taken (d.flags i.bits) d.stands);
      }
  in_part_of e (faulty_after_root {m = m} {rs = rs} h f) =
      let b = behind m rs h in
      let d = faulty_tail (settings_of s) e qs m (settings_after b)
      (ap (λ z. z.failed) b.same ∙ unfailed) b.done (all_expected b) f in
      of_tail e m rs b d.new d.codec d.stands

  -- what is read after the root leaves
  left_after : {m j : State} {rs xs : List (Option Value)} → Behind rs m → ReadsAdditions plain_rules qs m xs j
      → Left m j (count qs)
  left_after {m} {j} {rs} {xs} b h = left_of (settings_of s) qs m j xs (settings_after b) h

  at_end_of : (j : State) (rs xs : List (Option Value)) (e : DecodeError) → ReadsFields plain_rules ps qs i rs xs j
      → Unended e j → Fault (extended ps marker qs) e s
  at_end_of j rs xs e (reads_fields {m = m} h k) u = go u.stands
    where
      b : Behind rs m
      b = behind m rs h

      l : Left m j (count qs)
      l = left_after b k

      j_settings : settings_of j ≡ settings_of s
      j_settings = ap settings_of l.same ∙ settings_after b

      go : IsOfEnding e.kind j → Fault (extended ps marker qs) e s
      go (unread n x) = absurd (x (ap (λ z. z.presences) l.same ∙ b.done)
          (let y = l.counted in let z = all_expected b in omega arith))
      go (unskipped n x f) = of_tail e m rs b (ending_new (settings_of j) e.kind j.extension j.bits f)
          (u.codec ∙ ap (λ z. z.codec) l.same)
          (after_additions (settings_of s) e.kind qs m j xs (settings_after b) k
          (subst (λ z. IsInTail z e.kind no_parts j.extension j.bits) j_settings f))

  -- the bits in which those left stand are those from before
  pub same_source : (j : State) (rs xs : List (Option Value)) → ReadsFields plain_rules ps qs i rs xs j
      → j.source ≡ i.source
  same_source j rs xs (reads_fields {m = m} h k) = let b = behind m rs h in ap (λ z. z.source)
      (left_after b k).same ∙ ap (λ z. z.source) b.same

  -- what is the same inside comes back after the scope
  given_back : (t : Bits) → with_outside_record (with_bits i t) w ≡ with_bits s t
  given_back t = ap (λ z. with_outside_record (with_bits z t) w) a.enters.same
      ∙ ap (λ z. with_outside_record (with_bits s t) z) a.enters.waits

  pub read_of : (j t : State) (rs xs : List (Option Value)) → ReadsFields plain_rules ps qs i rs xs j → Closes j w t
      → Spells (extended ps marker qs) s (record_value rs xs) t
  read_of j t rs xs (reads_fields {m = m} h k) c =
      let b = behind m rs h in
      let l = left_after b k in
      let e : settings_of j ≡ settings_of s = ap settings_of l.same ∙ settings_after b in
      let y = tail_of (settings_of s) qs m j xs c.flags (settings_after b) k
      (subst (λ z. Took (Then (Shown z j.extension c.flags) (Unknown z c.flags)) j.bits t.bits) e c.skipped) in
      spelled a.live (record_took (settings_of s) ps marker a.extends qs rs xs a.taken b.root
      (subst (λ z. Tail (settings_of s) qs z xs m.bits t.bits) (bitmap_after b) y))
      (c.same ∙ ap (λ z. with_outside_record (with_bits z t.bits) w) l.same
      ∙ ap (λ z. with_outside_record (with_bits z t.bits) w) b.same ∙ given_back t.bits)

  pub back_of : (t : State) (v : Value) → Spells (extended ps marker qs) s v t
      → (rs xs : List (Option Value)) × (j : State) × ReadsFields plain_rules ps qs i rs xs j × Closes j w t
  back_of t v b =
      let q = took_record (settings_of s) ps marker qs v s.bits t.bits b.took in
      let g = took_agree (bit_agree marker q.extends a.extends) q.bit a.taken in
      let o : Took (Root (rules (settings_of s) ps) q.rs) (i.presences ++ i.bits) q.behind =
      subst (λ z. Took (Root (rules (settings_of s) ps) q.rs) z q.behind) g.1 q.root in
      let f = then_took (record { front = o.front; joins = o.joins; spelled = o.spelled.spelled }) in
      let n : f.0 ≡ i.bits = flags_off (settings_of s) ps o.spelled.shown i.presences i.bits f.0 a.presence_count f.1 in
      let parts = parts_back (settings_of s) ps i o.spelled.shown q.rs i.bits f.0 q.behind same_settings unfailed
      a.presence_count f.1
      (subst (λ z. Took (Bodies (rules (settings_of s) ps) o.spelled.shown q.rs) z q.behind) n f.2) in
      let m : State = with_rest i q.behind [] in
      let x : i.extension ≡ extension_of q.extends = a.shows ∙ ap extension_of (sym g.0) in
      let y : Tail (settings_of s) qs m.extension q.xs m.bits t.bits =
      subst (λ z. Tail (settings_of s) qs z q.xs q.behind t.bits) (sym x) q.tail in
      let r = turns_of (settings_of s) qs m q.xs t.bits same_settings unfailed refl a.counts y in
      let l = left_of (settings_of s) qs m r.end q.xs same_settings r.reads in
      let e : settings_of r.end ≡ settings_of s = ap settings_of l.same ∙ same_settings in (
        q.rs,
        q.xs,
        r.end,
        reads_fields parts r.reads,
        record {
          live = ap (λ z. z.failed) l.same ∙ unfailed;
          done = ap (λ z. z.presences) l.same;
          none = let c = l.counted in let d = a.counts in omega arith;
          flags = r.flags;
          skipped = subst (λ z. Took (Then (Shown z r.end.extension r.flags) (Unknown z r.flags)) r.end.bits t.bits)
              (sym e) r.skipped;
          same = b.same ∙ sym (ap (λ z. with_outside_record (with_bits z t.bits) w) l.same ∙ given_back t.bits);
        },
      )

-- A record is what is in its scope, whatever a decoder keeps of what waits outside: of it and of the bits in which
-- those left stand, it is told what waits.
pub scopes_well : {O : Type 0} (outside : Source → O → OutsideRecord)
    → ScopesWell plain_rules (λ o e s. Unended e s) (λ c s o i. Opens c s (outside i.source o) i)
    (λ s o t. Closes s (outside s.source o) t)
scopes_well outside = record {
  inside = λ c s o i a. ap (λ z. z.failed) a.enters.same ∙ a.live;
  room = λ c s o i e a m. m ∙ ap (λ z. refusal OutOfMemory z) a.enters.same;
  in_part = λ ps marker qs s o i e a f. in_part_of ps marker qs a e f;
  at_end = λ ps marker qs s i j o rs xs e a b u. at_end_of ps marker qs a j rs xs e b u;
  record_read = λ ps marker qs s i j t o rs xs a b c. read_of ps marker qs a j t rs xs b
      (subst (λ z. Closes j (outside z o) t) (same_source ps marker qs a j rs xs b) c);
  record_back = λ ps marker qs s i t o v a b.
      let r = back_of ps marker qs a t v b in (
        r.0,
        r.1,
        r.2,
        r.3,
        subst (λ z. Closes r.2 (outside z o) t)
            (sym (same_source ps marker qs a r.2 r.0 r.1 r.3)) r.4,
      );
}
