-- What the trait asks of calls, of what the encoder's own calls do.
use Rattle.std.proofs.Common.{◌≡◌, Bool, true, false, List, Option, Result, Ok, Err, refl, sym, ap, ◌∙◌, subst, inl, inr, ℕ, suc, length, arith}
use Rattle.std.proofs.lemmas.List.{length-map}
use Rattle.std.specs.Prelude.{◌⊎◌, if◌then◌else◌, IfErr, IfOk, OnErr, OnOk}
use Rattle.rasn_types.specs.Values.{Value, nothing}
use Rattle.rasn_schema.specs.Fields.{Shape, shape_of, shapes_from}
use Rattle.rasn_schema.specs.Structures.{presence_bits, record_value}
use Rattle.rasn_schema.specs.Schemas.{count, no_parts, Order, part, Schema, Parts}
use Rattle.rasn_traits.specs.Calls.{without_memory, Writes, Written}
use Rattle.rasn_traits.specs.Scopes.{OpenedToWrite, PresentsFields}
use Rattle.json.specs.Json.{Json, object, string}
use Rattle.rasn_jer.proofs.Fields.{record_shown}
use Rattle.rasn_jer.proofs.Refusing.{Inside, refused_record, unclosed}
use Rattle.rasn_jer.proofs.Turns.{all_done}
use Rattle.rasn_jer.specs.Names.{AreNamesOf}
use Rattle.rasn_jer.specs.Frames.{due_of, is_complete_of, IsNamedBy, named_frame, Frame, JsonState, Takes, unfailed_at}
use Rattle.rasn_jer.specs.Rules.{BehavesSo, Closed, EntersFrame, fault_of, IsRefused, IsUnmade, jer_rules, OpensRecord, Refuses, WritesText}
use Rattle.rasn_jer.specs.Shown.{at_once, HasNoJson, is_null, IsString, Shows, shows_string, ShowsText, StandsIn}
use Rattle.rasn_jer.specs.Texts.{enclosed, text_of}
use Rattle.rasn_jer.specs.declared.error.EncodeError.{EncodeError}
use Rattle.rasn_jer.specs.declared.error.EncodeError.TheVariants.{AlreadyFailed, NoJson, OutOfMemory}
use Rattle.rasn_jer.specs.declared.frame.Kind.{Kind}
use Rattle.rasn_jer.specs.declared.frame.Kind.TheVariants as Kinds

-- what holds of an answer holds of what follows from it
pub over_ok : {T E : Type 0} {P Q : T → Type 0} (r : Result T E) → IfOk r P → ((t : T) → P t → Q t) → IfOk r Q
over_ok (Ok t) h f = f t h
over_ok (Err e) h f = tt

-- a call that writes a text which shows a value
pub leaf : {T E : Type 0} (text : Result T E) (items : T → List ℕ) (x : JsonState) (s : Schema) (v : Value) (r : Result (Unit {0}) EncodeError) (y : JsonState)
    → WritesText text items x r y → IfOk text (λ t. ShowsText s v (items t)) → Writes jer_rules s v x r y
leaf (Ok t) items x s v (Ok u) y w h = record {
  law = record { begun = w.written.0; left = w.written.1; json = h.json; shows = h.shows; taken = subst (λ (l : List ℕ). Takes x.place l y.place) h.is_text w.written.2 };
  behaves = w.behaves;
}
leaf (Err n) items x s v (Ok u) y w h = absurd w.written
leaf (Ok t) items x s v (Err e) y w h = record { law = elim w.written [ inl m ↦ inl m | inr q ↦ inr (inl q) ]; behaves = w.behaves }
leaf (Err n) items x s v (Err e) y w h = record { law = elim w.written [ inl m ↦ inl m | inr q ↦ inr (inl q) ]; behaves = w.behaves }

-- and one that writes a text of one form
pub leaf_as : {T E : Type 0} (text : Result T E) (items : T → List ℕ) (x : JsonState) (s : Schema) (v : Value) (r : Result (Unit {0}) EncodeError) (y : JsonState) (j : Json)
    → WritesText text items x r y → IfOk text (λ t. items t ≡ text_of j) → Shows s v j → Writes jer_rules s v x r y
leaf_as text items x s v r y j w h k = leaf text items x s v r y w (over_ok text h (λ t e. record { json = j; is_text = e; shows = k }))

lacks : (e : EncodeError) → e ≡ OutOfMemory → StandsIn (fault_of e) Schema.null nothing
lacks e m = subst (λ (f : EncodeError). StandsIn (fault_of f) Schema.null nothing) (sym m) (at_once is_null)

-- NULL, for which the traits take no memory
pub null_leaf : {T E : Type 0} (text : Result T E) (items : T → List ℕ) (x : JsonState) (r : Result (Unit {0}) EncodeError) (y : JsonState) (j : Json)
    → WritesText text items x r y → IfOk text (λ t. items t ≡ text_of j) → Shows Schema.null nothing j → Writes (without_memory jer_rules) Schema.null nothing x r y
null_leaf (Ok t) items x (Ok u) y j w h k = record {
  law = record { begun = w.written.0; left = w.written.1; json = j; shows = k; taken = subst (λ (l : List ℕ). Takes x.place l y.place) h w.written.2 };
  behaves = w.behaves;
}
null_leaf (Err n) items x (Ok u) y j w h k = absurd w.written
null_leaf (Ok t) items x (Err e) y j w h k = record { law = inr (elim w.written [ inl m ↦ inr (lacks e m) | inr q ↦ inl q ]); behaves = w.behaves }
null_leaf (Err n) items x (Err e) y j w h k = record { law = inr (elim w.written [ inl m ↦ inr (lacks e m) | inr q ↦ inl q ]); behaves = w.behaves }

-- how a refusing call behaves, by the error that it answers
pub refused_behaves : {T : Type 0} (x y : JsonState) (e : EncodeError) (f : EncodeError) → e ≡ (if x.failed then AlreadyFailed else f) → y.failed ≡ true → BehavesSo {T = T} x (Err e) y
refused_behaves x y e f h k = record { again = λ q. h ∙ ap (λ (b : Bool). if b then AlreadyFailed else f) q; fails = k; kept = refl }

-- a refusing call names a fault that stands, or that there was an earlier one
pub refused_why : (b : Bool) (x : JsonState) (e f : EncodeError) (s : Schema) (v : Value) → x.failed ≡ b → e ≡ (if b then AlreadyFailed else f)
    → StandsIn (fault_of f) s v → Refuses e x s v
refused_why true x e f s v q h k = subst (λ (z : EncodeError). Refuses z x s v) (sym h) (inl q)
refused_why false x e f s v q h k = subst (λ (z : EncodeError). Refuses z x s v) (sym h) (inr k)

pub already : (e : EncodeError) (x : JsonState) → e ≡ AlreadyFailed → x.failed ≡ true → IsRefused e x
already e x m f = subst (λ (z : EncodeError). IsRefused z x) (sym m) f

-- a record is opened
-- one field for each component
pub fields_counted : (i : ℕ) (ps : Parts) → length (shapes_from i ps) ≡ count ps
fields_counted i no_parts = refl
fields_counted i (part t p s ps) = let e = fields_counted (suc i) ps in omega (arith, e)

names_counted : (shapes : List Shape) (names : List (List ℕ)) → AreNamesOf shapes names → length names ≡ length shapes
names_counted shapes names h = ap (λ (l : List (List ℕ)). length l) h.are_names ∙ length-map h.fields _ ∙ sym (length-map h.fields shape_of) ∙ ap (λ (l : List Shape). length l) h.are_these

pub record_opened : (order : Order) (parts additions : ℕ → Parts) (marker : Bool) (root added : List Shape) (bits : ℕ) {E : Type 0} (place : Result Frame E) (x : JsonState) (r : Result Frame EncodeError) (y : JsonState)
    → ((n : ℕ) → length root ≡ count (parts n)) → ((n : ℕ) → length added ≡ count (additions n))
    → ((n : ℕ) → bits ≡ presence_bits (parts n)) → EntersFrame place x r y → IfOk place (IsNamedBy root added bits) → OpenedToWrite jer_rules OpensRecord order parts marker additions x r y
record_opened order parts additions marker root added bits (Ok p) x (Ok o) y c d b w h = λ n.
    let within : y ≡ unfailed_at (named_frame Kinds.Members p.root p.added (due_of p.root bits p.added)) = w.entered.2 ∙ ap unfailed_at h.is_vacant in
    let in_it : Inside y = record { unfailed = ap (λ (z : JsonState). z.failed) within; members = ap (λ (z : JsonState). z.place.kind) within } in
    (record { begun = w.entered.0; outer = w.entered.1; root = p.root; added = p.added; bits = bits; counted = (names_counted root p.root h.of_root ∙ c n, names_counted added p.added h.of_added ∙ d n, b n); within = within }, record { room = λ e m. m; of_record = λ e rs xs c k. refused_record order marker x in_it k })
record_opened order parts additions marker root added bits (Err n) x (Ok o) y c d b w h = absurd w.entered
record_opened order parts additions marker root added bits (Ok p) x (Err e) y c d b w h = elim w.entered [ inl m ↦ inl m | inr q ↦ inr (λ n v. inl (already e x q.0 q.1)) ]
record_opened order parts additions marker root added bits (Err n) x (Err e) y c d b w h = elim w.entered [ inl m ↦ inl m | inr q ↦ inr (λ n v. inl (already e x q.0 q.1)) ]

-- what was presented inside shows the whole, between two characters
pub closed : (kind : Kind) (opening closing : ℕ) (o : Frame) (x j : JsonState) (s : Schema) (v : Value) (json : Json) (r : Result (Unit {0}) EncodeError) (y : JsonState)
    → is_complete_of kind j.place.is_empty j.place.due ≡ true → x.failed ≡ false → o ≡ x.place → j.failed ≡ false → j.place.kind ≡ kind → Shows s v json
    → enclosed opening j.place.text closing ≡ text_of json → Closed kind opening closing o j r y → Written jer_rules s v x r y
closed kind opening closing o x j s v json (Ok u) y c b w f k h e q = record {
  begun = b;
  left = q.2;
  json = json;
  shows = h;
  taken = subst (λ (p : Frame). Takes p (text_of json) y.place) w (subst (λ (l : List ℕ). Takes o l y.place) e q.3);
}
closed kind opening closing o x j s v json (Err e) y c b w f k h t q = elim q [
  | inl m ↦ inl m
  | inr z ↦ inr (inl (unclosed e kind o j x w f k (ap (λ (i : Kind). is_complete_of i j.place.is_empty j.place.due) k ∙ c) z))
]

-- a record is closed
pub record_closed : (order : Order) (ps : Parts) (marker : Bool) (qs : Parts) (x i j : JsonState) (rs xs : List (Option Value)) (o : Frame) (r : Result (Unit {0}) EncodeError) (y : JsonState)
    → Closed Kinds.Members 123 125 o j r y → OpensRecord (Schema.sequence order ps marker qs) x o i → PresentsFields jer_rules ps qs i rs xs j
    → Written jer_rules (Schema.sequence order ps marker qs) (record_value rs xs) x r y
record_closed order ps marker qs x i j rs xs o r y q h k =
    let shown = record_shown order marker h.counted.0 h.counted.1 h.within k in
    closed Kinds.Members 123 125 o x j _ _ (object shown.members) r y (all_done order ps marker qs x i j rs xs o h k) h.begun h.outer shown.within.unfailed shown.within.members shown.shown (ap (λ (l : List ℕ). enclosed 123 l 125) shown.written) q

-- what holds of a success holds of what follows from it
pub over_unit : {T E : Type 0} {P Q : Type 0} (r : Result T E) → OnOk r P → (P → Q) → OnOk r Q
over_unit (Ok t) h f = f h
over_unit (Err e) h f = tt

-- a refusing call of a value in which a fault stands, or for which memory ran out
pub refused_leaf : (b : Bool) (x y : JsonState) (e f : EncodeError) (s : Schema) (v : Value) → x.failed ≡ b → e ≡ (if b then AlreadyFailed else f) → y.failed ≡ true
    → ((f ≡ OutOfMemory) ⊎ StandsIn (fault_of f) s v) → Writes jer_rules s v x (Err e) y
refused_leaf true x y e f s v q h k w = record {
  law = inr (inl (already e x h q));
  behaves = record { again = λ _. h; fails = k; kept = refl };
}
refused_leaf false x y e f s v q h k w = record {
  law = elim w [ inl m ↦ inl (h ∙ m) | inr z ↦ inr (inr (subst (λ (i : EncodeError). StandsIn (fault_of i) s v) (sym h) z)) ];
  behaves = record { again = λ a. absurd (let t : true ≡ false = sym a ∙ q in cc); fails = k; kept = refl };
}

-- how a call behaves where no call was refused before
pub unrefused_behaves : {T : Type 0} (x y : JsonState) (r : Result T EncodeError) → x.failed ≡ false → OnErr r (y.failed ≡ true) → BehavesSo x r y
unrefused_behaves x y r f k = record { again = λ a. absurd (let t : true ≡ false = sym a ∙ f in cc); fails = k; kept = refl }

-- an error of a text says that memory ran out, or that the value has no JSON
pub no_json : (f : EncodeError) (s : Schema) (v : Value) → IsUnmade s v f → (f ≡ OutOfMemory) ⊎ StandsIn (fault_of f) s v
no_json f s v (inl m) = inl m
no_json f s v (inr q) = inr (subst (λ (z : EncodeError). StandsIn (fault_of z) s v) (sym q.0) (at_once q.1))

-- a string's text shows its value
pub string_made : {T E : Type 0} (text : Result T E) (items : T → List ℕ) (s : Schema) (v : Value) (l : List ℕ) → IfOk text (λ t. items t ≡ text_of (string l)) → IsString s v l → IfOk text (λ t. ShowsText s v (items t))
string_made text items s v l h k = over_ok text h (λ t e. record { json = string _; is_text = e; shows = shows_string k })

-- no text is made where memory ran out, or where the value has no JSON
pub made_or_not : {K T : Type 0} (text : Result T EncodeError) (s : Schema) (v : Value) → IfErr text (λ e. (e ≡ OutOfMemory) ⊎ ((e ≡ NoJson) × K)) → (K → HasNoJson s v) → IfErr text (IsUnmade s v)
made_or_not (Ok t) s v h f = tt
made_or_not (Err e) s v h f = elim h [ inl m ↦ inl m | inr q ↦ inr (q.0, f q.1) ]
