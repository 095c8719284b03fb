use Rattle.std.proofs.Common.{ℕ, List, [], ◌∷◌, ◌++◌, Option, sym, ap, ◌∙◌, subst, append_assoc, append-nil}
use Rattle.std.specs.Io.KnownBytes.{Appends}
use Rattle.std.proofs.KnownBytes.{Appends-trans, Appends-kept}
use Rattle.line_replies.specs.Faults.{AppendsFront}
use Rattle.line_replies.proofs.OutputLaws.{on_ok}
use Rattle.line_replies.proofs.output.write_line.Goals as goal

-- a front of a text is one of its line
in_text : (a b : Option (List ℕ)) (text : List ℕ) → AppendsFront a b text → AppendsFront a b (text ++ 10 ∷ [])
in_text a b text (front, rest, split, appended) =
    (front, rest ++ 10 ∷ [], ap (λ l. l ++ 10 ∷ []) split ∙ append_assoc front rest (10 ∷ []), appended)

-- a text and a front of its line feed
in_feed : (a b c : Option (List ℕ)) (text : List ℕ) → Appends a b text → AppendsFront b c (10 ∷ []) → AppendsFront a c (text ++ 10 ∷ [])
in_feed a b c text whole (front, rest, split, appended) =
    (text ++ front, rest, ap (λ l. text ++ l) split ∙ sym (append_assoc text front rest), Appends-trans a b c text front whole appended)

pub returns-in_err-write_front-clause-front : goal.returns-in_err-write_front-clause-front
returns-in_err-write_front-clause-front g c =
    let before = g.W.Write.contents c.args.output.now in
    let after = g.W.Write.contents c.write_front.new.output in
    subst (λ t. AppendsFront before after (t ++ 10 ∷ [])) c.as_bytes.ensures.value (in_text before after _ c.in_err-write_front.ensures.err)

pub returns-in_err-write_front-2-clause-front : goal.returns-in_err-write_front-2-clause-front
returns-in_err-write_front-2-clause-front g c =
    let before = g.W.Write.contents c.args.output.now in
    let behind = g.W.Write.contents c.write_front.new.output in
    let after = g.W.Write.contents c.write_front-2.new.output in
    subst (λ t. AppendsFront before after (t ++ 10 ∷ [])) c.as_bytes.ensures.value
    (in_feed before behind after _ c.in_ok-write_front.ensures.ok c.in_err-write_front-2.ensures.err)

pub returns-clause-ok : goal.returns-clause-ok
returns-clause-ok g c =
    let before = g.W.Write.contents c.args.output.now in
    let after = g.W.Write.contents c.flush.new.self in
    let written = Appends-kept before _ after _ (Appends-trans before _ _ _ _ c.in_ok-write_front.ensures.ok c.in_ok-write_front-2.ensures.ok) c.flush.ensures.bytes in
    on_ok c.flush.result (subst (λ t. Appends before after (t ++ 10 ∷ [])) c.as_bytes.ensures.value written)

pub returns-clause-front : goal.returns-clause-front
returns-clause-front g c =
    let before = g.W.Write.contents c.args.output.now in
    let after = g.W.Write.contents c.flush.new.self in
    let written = Appends-kept before _ after _ (Appends-trans before _ _ _ _ c.in_ok-write_front.ensures.ok c.in_ok-write_front-2.ensures.ok) c.flush.ensures.bytes in
    subst (λ t. AppendsFront before after (t ++ 10 ∷ [])) c.as_bytes.ensures.value (_, [], sym (append-nil _), written)
