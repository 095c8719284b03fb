-- Why texts of JSON make no octets.
use Rattle.std.proofs.Common.{◌≡◌, ◌⊎◌, inl, inr, refl, sym, subst, ℕ, List}
use Rattle.per_messages.specs.Messages.{IsUnmade}
use Rattle.per_messages.specs.declared.error.MessageError.{MessageError}
use Rattle.per_messages.specs.declared.error.MessageError.TheVariants as Of
use Rattle.per_messages.specs.Paths.{IsFaultOf}
use Rattle.per_messages.specs.declared.located.Fault.{Fault as JsonFault}
use Rattle.rasn_dynamic_jer.specs.declared.from_json_error.FromJsonError.{FromJsonError}
use Rattle.rasn_dynamic_jer.specs.declared.from_json_error.FromJsonError.TheVariants as Told
use Rattle.message_lines.specs.Replies.{fault_refusal, IsRefusalOfText, IsUnmadeText}
use Rattle.message_lines.specs.declared.replies.Messages.{Messages}
use Rattle.message_lines.specs.declared.replies.Refusal.{Refusal}
use Rattle.message_lines.specs.declared.replies.Refusal.TheVariants.{OutOfMemory}

module _ (m : Messages) (text : List ℕ) where
  pub unmade_text : (e : MessageError) (r : Refusal) → IsUnmade m.types.now m.codec m.place text e ⊎ (e ≡ Of.OutOfMemory)
      → IsRefusalOfText m text e r → IsUnmadeText m text r ⊎ (r ≡ OutOfMemory)
  unmade_text (Of.FromJson t) r h (inl q) = inr q
  unmade_text (Of.FromJson t) r (inl h) (inr (inl q)) = inl (subst (IsUnmadeText m text) (sym q) (h, refl))
  unmade_text (Of.FromJson t) r (inr e) (inr (inl q)) = absurd cc
  unmade_text (Of.FromJson t) r h (inr (inr k)) = inl (subst (IsUnmadeText m text) (sym k.1) (k.2, k.3))
  unmade_text Of.OutOfMemory r h q = inr q
  unmade_text (Of.Decode kind) r (inl h) q = inl (subst (IsUnmadeText m text) (sym q) (h, refl))
  unmade_text (Of.Decode kind) r (inr e) q = absurd cc
  unmade_text (Of.Encode kind) r (inl h) q = inl (subst (IsUnmadeText m text) (sym q) (h, refl))
  unmade_text (Of.Encode kind) r (inr e) q = absurd cc
  unmade_text Of.NoJson r (inl h) q = inl (subst (IsUnmadeText m text) (sym q) (h, refl))
  unmade_text Of.NoJson r (inr e) q = absurd cc
  unmade_text Of.OtherType r (inl h) q = inl (subst (IsUnmadeText m text) (sym q) (h, refl))
  unmade_text Of.OtherType r (inr e) q = absurd cc

  by_error : (t : FromJsonError) (f : JsonFault) (r : Refusal) (e : FromJsonError) → r ≡ fault_refusal e f
      → IsUnmade m.types.now m.codec m.place text (Of.FromJson f.error) → IsFaultOf m.types.now.kinds.items m.place text f → IsRefusalOfText m text (Of.FromJson t) r
  by_error t f r Told.OutOfMemory q n i = inl q
  by_error t f r Told.NotJson q n i = inr (inr (f, q, n, i))
  by_error t f r Told.DuplicateMember q n i = inr (inr (f, q, n, i))
  by_error t f r Told.UnknownMember q n i = inr (inr (f, q, n, i))
  by_error t f r Told.MissingMember q n i = inr (inr (f, q, n, i))
  by_error t f r Told.UnknownItem q n i = inr (inr (f, q, n, i))
  by_error t f r Told.UnknownAlternative q n i = inr (inr (f, q, n, i))
  by_error t f r Told.WrongKind q n i = inr (inr (f, q, n, i))
  by_error t f r Told.BadNumber q n i = inr (inr (f, q, n, i))
  by_error t f r Told.BadHexadecimal q n i = inr (inr (f, q, n, i))
  by_error t f r Told.BadCharacter q n i = inr (inr (f, q, n, i))
  by_error t f r Told.BadTime q n i = inr (inr (f, q, n, i))
  by_error t f r Told.BadIdentifier q n i = inr (inr (f, q, n, i))
  by_error t f r Told.NoType q n i = inr (inr (f, q, n, i))

  -- a text that tells no value, by its fault
  pub of_fault : (e : MessageError) (t : FromJsonError) (f : JsonFault) (r : Refusal) → e ≡ Of.FromJson t → r ≡ fault_refusal f.error f
      → IsUnmade m.types.now m.codec m.place text (Of.FromJson f.error) → IsFaultOf m.types.now.kinds.items m.place text f → IsRefusalOfText m text e r
  of_fault e t f r is q n i = subst (λ (x : MessageError). IsRefusalOfText m text x r) (sym is) (by_error t f r f.error q n i)
