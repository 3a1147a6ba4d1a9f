-- A play under a certificate that is valid is an end of the request.
use Rattle.std.proofs.Common.{ℕ, zero, suc, ◌≡◌, ◌+◌, ◌≤◌, ◌*◌, ◌⊎◌, Bool, true, false, List, [], ◌∷◌, length, slice_get, Option, None, Some, Result, Ok, Err, inl, inr, refl, sym, subst, nat_lt, if◌then◌else◌}
use Rattle.bddl_model.specs.declared.certificate.Answered.{Answered}
use Rattle.bddl_model.specs.declared.certificate.Node.{Node}
use Rattle.bddl_model.specs.declared.certificate.Node.TheVariants as kinds
use Rattle.bddl_model.specs.declared.game.Move.{Move}
use Rattle.bddl_model.specs.declared.game.Side.{Side}
use Rattle.bddl_model.specs.declared.game.Side.TheVariants.{White}
use Rattle.bddl_model.specs.declared.memory.NoMemory.{NoMemory}
use Rattle.bddl_model.specs.declared.play.Played.{Played}
use Rattle.bddl_model.specs.declared.play.Played.TheVariants as ends
use Rattle.bddl_model.specs.declared.texts.DomainText.{DomainText}
use Rattle.bddl_model.specs.declared.texts.ProblemText.{ProblemText}
use Rattle.bddl_model.specs.Board.{Board}
use Rattle.bddl_model.specs.Certificate.{valid}
use Rattle.bddl_model.specs.CertificateText.{CertText}
use Rattle.bddl_model.specs.Game.{Game}
use Rattle.bddl_model.specs.Moves.{moves, after}
use Rattle.bddl_model.specs.Outcome.{AcceptedThen, End, GameThen, PlayEnds, PlayTold, States}
use Rattle.bddl_model.specs.Play.{Told, told, with_text, made_text, plays, play_on, played_at, replied, in_range, Reaches, ReachesOrGone}
use Rattle.bddl_model.specs.Setup.{Setup}
use Rattle.io_edge.specs.Outside.{WithFront}
use Rattle.game_play.specs.Plays.{IsWanting, PlaysOut}
use Rattle.request_parts.specs.Ends.{CutShort, Writes, closed, content_told}
use Rattle.request_parts.specs.declared.refusal.Close.TheVariants as close
use Rattle.request_parts.specs.declared.refusal.Stop.TheVariants as stop
use Rattle.request_parts.proofs.Certificates.{accepted_goes_on}
use Rattle.request_parts.proofs.Games.{game_goes_on}

-- ---- a play as it is defined isn't cut short

abbrev IsWhole : Played → Type 0
IsWhole ends.WriteFault = ⊥
IsWhole end = Unit {0}

either_is_whole : (b : Bool) (t u : Told) → IsWhole t.end → IsWhole u.end → IsWhole (if b then t else u).end
either_is_whole true t u h k = h
either_is_whole false t u h k = k

found_is_whole : {A : Type 0} (found : Option A) (next : A → Told) → ((a : A) → IsWhole (next a).end) → (let t : Told = elim found [ None ↦ told ends.Gone [] | Some a ↦ next a ] in IsWhole t.end)
found_is_whole None next rest = tt
found_is_whole (Some a) next rest = rest a

reply_is_whole : (g : Game) (next : Answered → List ℕ → Told) → ((a : Answered) (replies : List ℕ) → IsWhole (next a replies).end) → (answers : List Answered) (shown : List Move) (replies : List ℕ) → IsWhole (replied g next answers shown replies).end
reply_is_whole g next rest answers shown [] = tt
reply_is_whole g next rest answers shown (k ∷ replies) =
    either_is_whole (nat_lt k (length shown)) _ _ (found_is_whole (slice_get answers k) (λ a. with_text (made_text g White a.mv) (next a replies)) (λ a. rest a replies)) tt

node_is_whole : (g : Game) (next : Side → Answered → List ℕ → Told) → ((side : Side) (a : Answered) (replies : List ℕ) → IsWhole (next side a replies).end) → (made : ℕ) (node : Node) (board : Board) (replies : List ℕ) → IsWhole (played_at g next made node board replies).end
node_is_whole g next rest made kinds.Goal board replies = tt
node_is_whole g next rest made (kinds.Black mv n) board replies = rest _ _ replies
node_is_whole g next rest made (kinds.White answers) board replies = reply_is_whole g (next White) (rest White) answers (moves g board White) replies

play_is_whole : (g : Game) (all : List Node) (n made id : ℕ) (board : Board) (replies : List ℕ) → IsWhole (play_on g all n made id board replies).end
unfolding play_on
play_is_whole g all zero made id board replies = tt
play_is_whole g all (suc n) made id board replies =
    let next : Side → Answered → List ℕ → Told = λ side a. play_on g all n (made + 1) a.next.0 (after g board side a.mv) in
    found_is_whole (slice_get all id) (λ node. played_at g next made node board replies) (λ node. node_is_whole g next (λ side a more. play_is_whole g all n (made + 1) a.next.0 (after g board side a.mv) more) made node board replies)

-- ---- what was put, by the replies

-- memory was wanting before anything was put, or the play under these replies was put
abbrev pub IsPlayed : Told → Option (List ℕ) → Option (List ℕ) → Result Played NoMemory → Type 0
IsPlayed t old new r = (IsWanting r × (new ≡ old)) ⊎ PlaysOut t old new r

-- the replies are what was answered, or what was told before
pub by_replies : (s : Setup) (nodes : List Node) (said replies : List ℕ) (left : Option (List ℕ)) (old new : Option (List ℕ)) (r : Result Played NoMemory) (A B : Type 0)
    → (IsWanting r × A × (new ≡ old)) ⊎ (B × PlaysOut (plays s nodes said) old new r)
    → ((numbers : List ℕ) → left ≡ Some numbers → (IsWanting r × (new ≡ old)) ⊎ PlaysOut (plays s nodes numbers) old new r)
    → (said ≡ replies) ⊎ (left ≡ Some replies) → IsPlayed (plays s nodes replies) old new r
by_replies s nodes said replies left old new r A B (inl (w, a, same)) from (inl e) = inl (w, same)
by_replies s nodes said replies left old new r A B (inr (b, p)) from (inl e) = inr (subst (λ rs. PlaysOut (plays s nodes rs) old new r) e p)
by_replies s nodes said replies left old new r A B h from (inr e) = from replies e

module _ (d p : List ℕ) (dom : DomainText) (prob : ProblemText) (s : Setup) (states : States d p dom prob (Ok s)) (c : List ℕ) (nodes : List Node) (read : CertText c nodes) (v : valid s nodes ≡ true)
    (won : (replies : List ℕ) → in_range s nodes replies ≡ true → ReachesOrGone s.depth (plays s nodes replies).end)
    (reached : (replies : List ℕ) → in_range s nodes replies ≡ true → s.depth ≤ 2 * length replies → Reaches s.depth (plays s nodes replies).end)
    (replies : List ℕ) (old new : Option (List ℕ)) where
  is_an_end : (end : End) → PlayTold (plays s nodes replies) end → GameThen d p (AcceptedThen c (PlayEnds replies)) end
  is_an_end end told = game_goes_on d p dom prob s (AcceptedThen c (PlayEnds replies)) end states
      (accepted_goes_on c (PlayEnds replies) s nodes end read v (record { told = told; won = won replies; reached = reached replies }))

  -- with the transcript of the play some end comes
  some_end : (t : Told) (e : Played) → t.end ≡ e → IsWhole e → (end : End) × PlayTold t end × (end.out ≡ t.text)
  some_end t (ends.Reached plies) is whole = (closed close.Done t.text, rw is refl, refl)
  some_end t ends.Gone is whole = (closed close.Gone t.text, rw is refl, refl)
  some_end t (ends.BadReply number count) is whole = (closed (close.BadReply number count) t.text, rw is refl, refl)
  some_end t ends.WriteFault is whole = absurd whole

  a_front : WithFront old new (plays s nodes replies).text → CutShort (GameThen d p (AcceptedThen c (PlayEnds replies))) old new
  unfolding plays
  a_front front =
      let end = some_end (plays s nodes replies) (plays s nodes replies).end refl (play_is_whole s.game nodes (suc s.depth) 0 0 s.board replies) in
      inr (end.0, is_an_end end.0 end.1, subst (λ text. WithFront old new text) (sym end.2) front)

  pub play_reached : (plies : ℕ) → IsPlayed (plays s nodes replies) old new (Ok (ends.Reached plies)) → Writes content_told (GameThen d p (AcceptedThen c (PlayEnds replies))) old new (Ok close.Done)
  play_reached plies (inl h) = absurd h.0
  play_reached plies (inr (end, w)) = ((plays s nodes replies).text, is_an_end (closed close.Done (plays s nodes replies).text) (rw end refl), w)

  pub play_gone : IsPlayed (plays s nodes replies) old new (Ok ends.Gone) → Writes content_told (GameThen d p (AcceptedThen c (PlayEnds replies))) old new (Ok close.Gone)
  play_gone (inl h) = absurd h.0
  play_gone (inr (end, w)) = ((plays s nodes replies).text, is_an_end (closed close.Gone (plays s nodes replies).text) (rw end refl), w)

  pub play_bad : (number count : ℕ) → IsPlayed (plays s nodes replies) old new (Ok (ends.BadReply number count)) → Writes content_told (GameThen d p (AcceptedThen c (PlayEnds replies))) old new (Ok (close.BadReply number count))
  play_bad number count (inl h) = absurd h.0
  play_bad number count (inr (end, w)) = ((plays s nodes replies).text, is_an_end (closed (close.BadReply number count) (plays s nodes replies).text) (rw end refl), w)

  pub play_cut : IsPlayed (plays s nodes replies) old new (Ok ends.WriteFault) → Writes content_told (GameThen d p (AcceptedThen c (PlayEnds replies))) old new (Err stop.WriteFault)
  play_cut (inl h) = absurd h.0
  play_cut (inr front) = a_front front

  pub play_wants : (e : NoMemory) → IsPlayed (plays s nodes replies) old new (Err e) → Writes content_told (GameThen d p (AcceptedThen c (PlayEnds replies))) old new (Err stop.NoMemory)
  play_wants e (inl h) = inl h.1
  play_wants e (inr front) = a_front front
