-- What opening a list and going on in it take, and why they refuse (ITU-T X.691, 20).
use Rattle.std.proofs.Common.{◌≡◌, inl, inr, refl, sym, ◌∙◌, ap, subst, ℕ, suc, Bool, true, false, List, length, drop, ◌-◌, arith}
use Rattle.std.specs.Prelude.{Result, Ok, Err}
use Rattle.rasn_types.specs.Bits.{Bits}
use Rattle.rasn_types.specs.Values.{Value}
use Rattle.rasn_constraints.specs.Bounds.{Size}
use Rattle.rasn_schema.specs.Lists.{list_at}
use Rattle.rasn_schema.specs.Structures.{list_value}
use Rattle.rasn_schema.specs.Schemas
use Rattle.rasn_schema.specs.Schemas.{Schema}
use Rattle.rasn_traits.specs.Lists.{HasElement, ListOpenedToRead, ListUnread}
use Rattle.per_core.specs.Basic.{basic, basic_in}
use Rattle.per_core.specs.Spellings.{Settings, Took, NoneIn}
use Rattle.per_core.proofs.TakenInTurn.{took_map}
use Rattle.per_read.specs.Lists.{AreOpenItems, AwaitsItem, Leaves, NextRead, OpensList, ReadsNext, RefusesList, list_form, list_rule}
use Rattle.per_core.specs.SizeFaults.{IsOfList}
use Rattle.per_read.specs.ReaderState.{ReaderState as Taking}
use Rattle.per_core.specs.declared.decode_error.DecodeError.{DecodeError}
use Rattle.per_core.specs.declared.decode_error.DecodeErrorKind.{DecodeErrorKind}
use Rattle.per_core.specs.declared.decode_error.DecodeErrorKind.TheVariants.{AlreadyFailed, OutOfMemory}
use Rattle.per_read.specs.declared.lists.UnreadElements.{UnreadElements}
use Rattle.per_read.proofs.OfLists.{of_list, opening_tested}
use Rattle.per_decoding.proofs.Scoping.Contents.{moved}
use Rattle.per_decoding.specs.Faults.{Answered, IsOf, refusal}
use Rattle.per_core.specs.ReadingFaults.{in_element}
use Rattle.per_de.specs.Lists.{IsOpenList}
use Rattle.per_decoding.specs.Rules.{plain_rules}
use Rattle.per_decoding.proofs.Scoping.Spelled.{spelled}
use Rattle.per_decoding.specs.State.{State, Spells, reader_of, settings_of, with_bits, with_last}
use Rattle.per_de.specs.declared.ListScope.{ListScope}
use Rattle.per_de.proofs.Calls.{refuses}
use Rattle.per_de.proofs.ElementCounts.{one_more_few, took_up_to_few}
use Rattle.per_de.proofs.Opening.{answered_ok, answered_err}
use Rattle.per_decoding.proofs.Spans.{with_rest}

module _ (a : Settings) (e : Schema) (size : Size) (mark : Bool) where
  list_took : (vs : List Value) {s t : Bits} → Took (list_form (list_rule a size mark e) vs) s t → Took (basic a (Schemas.list e size mark) (list_value vs)) s t
  unfolding basic_in
  list_took vs b = took_map (λ p c y. record { of = vs; is = refl; spelled = y }) b

  no_list : {s : Bits} → NoneIn (list_form (list_rule a size mark e)) s → NoneIn (basic a (Schemas.list e size mark)) s
  unfolding basic_in
  no_list none v t b = none b.spelled.of t (record { front = b.front; joins = b.joins; spelled = b.spelled.spelled })

-- a list that isn't read
unread : (e : Schema) (size : Size) (mark : Bool) (s : State) (k : DecodeErrorKind) (d : DecodeError) → d ≡ refusal k s
    → IsOfList (settings_of s) size mark (basic (settings_of s) e) s.bits k → NoneIn (list_form (list_rule (settings_of s) size mark e)) s.bits → ListUnread plain_rules (Schemas.list e size mark) d s
unread e size mark s k d i says none = inr (refuses (Schemas.list e size mark) s k d i says (no_list (settings_of s) e size mark none))

module _ (size : Size) (mark : Bool) (s : State) (x y : Taking) (left m : ℕ) (taken : Result UnreadElements DecodeErrorKind) (deeper : s.levels ≡ suc m) (is : x ≡ reader_of s) (g : OpensList size mark x taken y) where
  begun : OpensList size mark (reader_of s) taken y
  begun = subst (λ z. OpensList size mark z taken y) is g

  -- a list is opened
  pub list_begun : (o : ListScope) (t i : State) → s.failed ≡ false → left ≡ length y.bits → Answered taken left s (Ok o.list) t → o.levels ≡ t.levels → i ≡ record t { levels = m }
      → ListOpenedToRead plain_rules IsOpenList size mark s (Ok o) i
  list_begun o t i live l a outside same =
      let r = answered_ok taken left s o.list t a in
      let items = rw r.0 at begun.ok in
      let leaves : Leaves s.bits y.bits = rw r.0 at begun.leaves in
      let f : t ≡ with_bits s y.bits = r.1 ∙ with_rest s leaves.front y.bits left leaves.joins l in
      subst (λ z. ListOpenedToRead plain_rules IsOpenList size mark s (Ok o) z) (sym (same ∙ ap (λ (z : State). record z { levels = m }) f)) (
        deeper,
        λ e. record {
          live = live;
          deeper = deeper;
          outside = outside ∙ ap (λ z. z.levels) f;
          same = refl;
          few = λ h. omega arith;
          items = items e;
        },
      )

  -- a list isn't opened
  pub no_list_begun : (d : DecodeError) (t i : State) → Answered taken left s (Err d) t → ListOpenedToRead {L = ListScope} plain_rules IsOpenList size mark s (Err d) i
  no_list_begun d t i a element =
      let r = answered_err taken left s d t a in
      let k = rw r.1 at begun.err in
      subst (λ l. ListUnread plain_rules (list_at element size mark l) d s) (sym deeper)
      (unread (element m) size mark s r.0 d r.2
      (of_list (settings_of s) size mark (basic (settings_of s) (element m)) s.bits r.0 (opening_tested (settings_of s) size mark s.bits r.0 k.0) (inl k.0)) (k.1 (element m)))

-- inside a list, which began at s
module _ {e : Schema} {size : Size} {mark : Bool} {s : State} {vs : List Value} {l m : UnreadElements} {o : ℕ} (i : State) {x y : Taking} (left : ℕ) {taken : Result Bool DecodeErrorKind}
    (a : IsOpenList e size mark s vs (record { list = l; levels = o }) i) (is : x ≡ reader_of i) (next : ReadsNext l x taken m y) where
  same_settings : settings_of i ≡ settings_of s
  same_settings = ap settings_of a.same

  same_codec : i.codec ≡ s.codec
  same_codec = ap (λ z. z.codec) a.same

  went : ReadsNext l (reader_of i) taken m y
  went = subst (λ z. ReadsNext l z taken m y) is next

  found : NextRead (list_rule (settings_of s) size mark e) s.bits vs taken m y.bits
  found =
      subst (λ z. NextRead (list_rule z size mark e) s.bits vs taken m y.bits) same_settings
      (went.law size mark e s.bits vs (subst (λ z. AreOpenItems (list_rule z size mark e) s.bits vs l i.bits) (sym same_settings) a.items))

  -- after what was taken
  on : (b : Bool) (t : State) → left ≡ length y.bits → Answered taken left i (Ok b) t → t ≡ record s { bits = y.bits; levels = i.levels }
  on b t n c =
      let r = answered_ok taken left i b t c in
      let leaves : Leaves i.bits y.bits = rw r.0 at went.leaves in
      r.1 ∙ with_rest i leaves.front y.bits left leaves.joins n ∙ ap (λ z. with_bits z y.bits) a.same

  -- it ends
  pub list_ended : (t j : State) → left ≡ length y.bits → Answered taken left i (Ok false) t → j ≡ record t { levels = o } → Spells (Schemas.list e size mark) s (list_value vs) j
  list_ended t j n b same =
      let r = answered_ok taken left i false t b in
      let w : Took (list_form (list_rule (settings_of s) size mark e) vs) s.bits y.bits = rw r.0 at found in
      subst (λ z. Spells (Schemas.list e size mark) s (list_value vs) z)
      (sym (same ∙ ap (λ (z : State). record z { levels = o }) (on false t n b) ∙ ap (λ z. record s { bits = y.bits; levels = z }) a.outside))
      (spelled a.live (list_took (settings_of s) e size mark vs w) refl)

  -- it isn't read
  pub list_refused : (d : DecodeError) (t : State) → Answered taken left i (Err d) t → ListUnread plain_rules (Schemas.list e size mark) d s
  list_refused d t b =
      let r = answered_err taken left i d t b in
      let w : RefusesList (list_rule (settings_of s) size mark e) s.bits r.0 = rw r.1 at found in
      unread e size mark s r.0 d (r.2 ∙ ap (λ c. record { kind = r.0; codec = c }) same_codec) w.says w.none

  -- an element's fault is one of the list
  of_element : (kind : DecodeErrorKind) → AwaitsItem (list_rule (settings_of s) size mark e) s.bits vs m y.bits → IsOf kind e (with_bits i y.bits) → IsOf kind (Schemas.list e size mark) s
  of_element AlreadyFailed w g = ap (λ z. z.failed) (sym a.same) ∙ g
  of_element _ w g = in_element vs w.behind (moved same_settings g)

  -- a further element is here
  pub element_follows : (t : State) → left ≡ length y.bits → Answered taken left i (Ok true) t → HasElement plain_rules IsOpenList e size mark s vs (record { list = m; levels = o }) t
  element_follows t n b =
      let r = answered_ok taken left i true t b in
      let w : AwaitsItem (list_rule (settings_of s) size mark e) s.bits vs m y.bits = rw r.0 at found in
      let leaves : Leaves i.bits y.bits = rw r.0 at went.leaves in
      let f : t ≡ with_bits i y.bits = r.1 ∙ with_rest i leaves.front y.bits left leaves.joins n in
      let g : with_bits i y.bits ≡ record s { bits = y.bits; levels = i.levels } = ap (λ z. with_bits z y.bits) a.same in
      let live : i.failed ≡ false = ap (λ z. z.failed) a.same ∙ a.live in
      subst (λ z. HasElement plain_rules IsOpenList e size mark s vs (record { list = m; levels = o }) z) (sym f) (record {
        deeper = a.deeper;
        element_read = λ v j c. record {
          live = a.live;
          deeper = a.deeper ∙ ap (λ z. suc z.levels) (sym c.same);
          outside = a.outside;
          same = c.same ∙ ap (λ z. with_bits z j.bits) g ∙ ap (λ z. record s { bits = j.bits; levels = z.levels }) (sym c.same);
          few = λ h. one_more_few vs v s.bits y.bits j.bits (took_up_to_few (settings_of s) (basic (settings_of s) e) size mark vs s.bits y.bits h w.behind) c.took;
          items = w.goes_on v j.bits (subst (λ z. Took (basic z e v) y.bits j.bits) same_settings c.took);
        };
        none = λ no v u c. no_list (settings_of s) e size mark (w.none (λ x z k.
            no x (with_bits i z) (spelled live (subst (λ b. Took (basic b e x) y.bits z) (sym same_settings) k) refl))) v u.bits c.took;
        in_element = λ d k. record { codec = k.codec ∙ same_codec; stands = of_element d.kind w k.stands };
        room = λ d k. k ∙ ap (λ c. record { kind = OutOfMemory; codec = c }) same_codec;
      })

-- a state of which all bits are left
pub whole_left : (s : State) → s ≡ with_last s (length s.bits)
whole_left s = ap (λ (n : ℕ). with_bits s (drop n s.bits)) {x = 0} {y = length s.bits - length s.bits} (omega arith)
