-- Octets that contain a value are shown as it: it is written by itself, and then where they were awaited.
use Rattle.std.proofs.Common.{◌≡◌, sym, ap, ◌∙◌, subst, inl, inr, List, ℕ}
use Rattle.std.specs.Prelude.{Result, Ok, Err, IfOk}
use Rattle.rasn_types.specs.Values.{Value}
use Rattle.rasn_schema.specs.Schemas.{Schema}
use Rattle.rasn_traits.specs.Calls.{Written}
use Rattle.rasn_traits.specs.Contents.{OpenedContents}
use Rattle.rasn_jer.proofs.Choosing.{alone, back}
use Rattle.rasn_jer.proofs.Writing.{leaf, over_ok}
use Rattle.rasn_jer.specs.Laws.Relations.{unrefused}
use Rattle.rasn_jer.specs.declared.error.EncodeError.{EncodeError}
use Rattle.rasn_jer.specs.declared.frame.Kind.TheVariants as Kinds
use Rattle.rasn_jer.specs.Frames.{inside, is_full, Frame, JsonState, unfailed_at, vacant_frame}
use Rattle.rasn_jer.specs.Rules.{EntersFrame, IsRefused, jer_rules, OpensContents, Presents, WritesText}
use Rattle.rasn_jer.specs.Shown.{in_contents, shows_contents}

pub contents_opened : {E : Type 0} (place : Result Frame E) (x : JsonState) (r : Result Frame EncodeError) (y : JsonState)
    → EntersFrame place x r y → IfOk place (λ p. p ≡ vacant_frame Kinds.One) → OpenedContents jer_rules OpensContents x r y
contents_opened (Ok p) x (Ok o) y w h =
    let within : y ≡ inside Kinds.One = w.entered.2 ∙ ap unfailed_at h in (
      record { begun = w.entered.0; outer = w.entered.1; within = within },
      record {
        room = λ e m. m;
        of_contents = λ e s v q. elim q [
          | inl z ↦ absurd (unrefused e y (ap (λ (z : JsonState). z.failed) within) (ap (λ (z : JsonState). is_full z.place) within) z)
          | inr z ↦ inr (in_contents z)
        ];
      },
    )
contents_opened (Err n) x (Ok o) y w h = absurd w.entered
contents_opened (Ok p) x (Err e) y w h = elim w.entered [ inl m ↦ inl m | inr q ↦ inr (λ s v. inl (subst (λ (z : EncodeError). IsRefused z x) (sym q.0) q.1)) ]
contents_opened (Err n) x (Err e) y w h = elim w.entered [ inl m ↦ inl m | inr q ↦ inr (λ s v. inl (subst (λ (z : EncodeError). IsRefused z x) (sym q.0) q.1)) ]

pub contents_closed : {T E : Type 0} (s : Schema) (v : Value) (x i j m : JsonState) (o p : Frame) (text : Result T E) (items : T → List ℕ) (r : Result (Unit {0}) EncodeError) (y : JsonState)
    → OpensContents x o i → Presents i s v j → p ≡ j.place → m ≡ unfailed_at o → IfOk text (λ t. items t ≡ p.text) → WritesText text items m r y
    → Written jer_rules (Schema.containing s) v x r y
contents_closed s v x i j m o p text items r y h w e f t q =
    let one = alone i j s v h.within w in
    let outside : m ≡ x = f ∙ back o x h.outer h.begun in
    let written = leaf text items m (Schema.containing s) v r y q (over_ok text t (λ u n. record { json = one.json; is_text = n ∙ ap (λ (z : Frame). z.text) e ∙ one.text; shows = shows_contents one.shows })) in
    subst (λ (z : JsonState). Written jer_rules (Schema.containing s) v z r y) outside written.law
