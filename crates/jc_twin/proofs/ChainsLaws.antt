-- The law of chains over walks, as one of those over whatever takes edges.
use Rattle.std.proofs.Common.{◌≡◌, ◌↔◌, ℕ, Bool, List, Some, refl, sym, ap, ◌∙◌, subst}
use Rattle.std.specs.Prelude.{slice_get, Contains, IsTrue}
use Rattle.std.specs.List.{flat_map}
use Rattle.std.proofs.lemmas.List.Elements.{Contains-append_left}
use Rattle.std.proofs.lemmas.Option.{same_Some}
use Rattle.jc_methods.specs.declared.body.Body.{Body}
use Rattle.jc_plan.specs.declared.branch.Branch.{Branch}
use Rattle.jc_plan.specs.Edges.{branches}
use Rattle.jc_plan.specs.ClassEdges.{ClassEdge, edge_in, IsClassEdge}
use Rattle.jc_cover.specs.Covered.{is_hit, IsCovered}
use Rattle.jc_cover.specs.Followed.{CameTo, AreEnteredInClass, AreFollowedInClass, in_body, TookSometime, IsIdOf}
use Rattle.jc_cover.proofs.FollowedLaws.{class_reached, class_taken}
use Rattle.jc_twin.specs.Walks.{EndedByReturn, NeverThrown, taken, stood, lone_edges, reached, IsWalk, ClassWalk, AreWalks, IsTaken, IsReached, ChainsAreSound, ChainsAreExact}
use Rattle.jc_twin.proofs.WalkLaws.{taken_listed, taken_stood, reached_stood, came_more, came_there, TookWith, took_with, with_took, followed}

module _ (bodies : List Body) where
  -- one body stands at a number
  one_standing : (n m : ℕ) (b c : Body) → n ≡ m → slice_get bodies n ≡ Some b → slice_get bodies m ≡ Some c → b ≡ c
  one_standing n m b c e h g = same_Some b c (sym h ∙ ap (slice_get bodies) e ∙ g)

  module _ (walks : List ClassWalk) (are : AreWalks bodies walks) where
    walk_is : (w : ClassWalk) → Contains walks w → (n : ℕ) (b : Body) → w.body ≡ n → slice_get bodies n ≡ Some b → IsWalk b w.walk
    walk_is w c n b e h = let is = are w c in subst (λ x. IsWalk x w.walk) (one_standing w.body n is.0 b e is.1 h) is.2

    -- a walk of this body took the edge
    took_by : (n : ℕ) (b : Body) (x : Branch) → slice_get bodies n ≡ Some b → (w : ClassWalk) → Contains walks w → w.body ≡ n → Contains (taken b 0 w.walk) x → IsTaken bodies walks (edge_in n x)
    took_by n b x stands w listed same took = record { by = w; listed = listed; same_body = same; body = b; stands = stands; took = took }

    -- a walk of this body stood where the edge begins
    came_by : (n : ℕ) (b : Body) (x : Branch) → slice_get bodies n ≡ Some b → (w : ClassWalk) → Contains walks w → w.body ≡ n → Contains (stood 0 w.walk) x.at
        → CameTo b (in_body n (IsTaken bodies walks)) x.at
    came_by n b x stands w listed same at =
        came_more b (λ y. Contains (taken b 0 w.walk) y) (in_body n (IsTaken bodies walks)) (λ y took. took_by n b y stands w listed same took) x.at
        (came_there b x.at w.walk (walk_is w listed n b same stands) at)

    entered : AreEnteredInClass bodies (IsTaken bodies walks) (IsReached bodies walks)
    entered n b stands = record {
      came = λ x listed r.
          let same = one_standing n n r.body b refl r.stands stands in
          came_by n b x stands r.by r.listed r.same_body
          (reached_stood b r.by.walk x (walk_is r.by r.listed n b r.same_body stands) (subst (λ z. Contains (reached z 0 r.by.walk) x) same r.reaches));
      reached = λ x t. record {
        by = t.by;
        listed = t.listed;
        same_body = t.same_body;
        body = t.body;
        stands = t.stands;
        reaches = Contains-append_left (taken t.body 0 t.by.walk) (flat_map (lone_edges t.body) (stood 0 t.by.walk)) x t.took;
      };
    }

    -- ---- where nothing was thrown

    -- a walk took the edge when it had so many edges more to take
    record TakenWith (e : ClassEdge) (left : ℕ) : Type 0 where
      by : ClassWalk
      listed : Contains walks by
      same_body : by.body ≡ e.body
      body : Body
      stands : slice_get bodies e.body ≡ Some body
      took : TookWith body 0 by.walk e.branch left

    module _ (ended : (w : ClassWalk) → Contains walks w → EndedByReturn w.walk × NeverThrown w.walk) where
      sometime : (e : ClassEdge) → IsTaken bodies walks e → TookSometime TakenWith e
      sometime e t =
          let how = ended t.by t.listed in
          let with = took_with t.body 0 t.by.walk e.branch how.0 how.1 t.took in
          (with.0, record { by = t.by; listed = t.listed; same_body = t.same_body; body = t.body; stands = t.stands; took = with.1 })

      taken_then : (e : ClassEdge) → TookSometime TakenWith e → IsTaken bodies walks e
      taken_then e s =
          let t = s.1 in
          record { by = t.by; listed = t.listed; same_body = t.same_body; body = t.body; stands = t.stands; took = with_took t.body 0 t.by.walk e.branch s.0 t.took }

      entered_again : AreEnteredInClass bodies (TookSometime TakenWith) (TookSometime TakenWith)
      entered_again n b stands = record {
        came = λ x listed s.
            let t = taken_then (edge_in n x) s in
            let same = one_standing n n t.body b refl t.stands stands in
            came_more b (in_body n (IsTaken bodies walks)) (in_body n (TookSometime TakenWith)) (λ y took. sometime (edge_in n y) took) x.at
            (came_by n b x stands t.by t.listed t.same_body
            (taken_stood b 0 t.by.walk x (walk_is t.by t.listed n b t.same_body stands) (subst (λ z. Contains (taken z 0 t.by.walk) x) same t.took)));
        reached = λ x s. s;
      }

      is_edge : (e : ClassEdge) → TookSometime TakenWith e → IsClassEdge bodies e
      is_edge e s =
          let t = taken_then e s in
          record { body = t.body; stands = t.stands; listed = taken_listed t.body 0 t.by.walk e.branch (walk_is t.by t.listed e.body t.body t.same_body t.stands) t.took }

      followed_in : AreFollowedInClass bodies TakenWith
      followed_in n b stands = record {
        listed = λ x left t.
            let e = is_edge (edge_in n x) (left, t) in
            subst (λ (z : Body). Contains (branches z.code) x) (one_standing n n e.body b refl e.stands stands) e.listed;
        next = λ x left t none.
            let same = one_standing n n t.body b refl t.stands stands in
            let how = ended t.by t.listed in
            let next = followed b 0 t.by.walk x left (walk_is t.by t.listed n b t.same_body stands) how.0 how.1 (subst (λ z. TookWith z 0 t.by.walk x left) same t.took) none in
            (next.0, next.1, next.2, next.3, record { by = t.by; listed = t.listed; same_body = t.same_body; body = b; stands = stands; took = next.4 });
      }

      exactly : (hits : List Bool) → ((id : ℕ) → IsTrue (is_hit hits id) ↔ IsIdOf bodies (IsTaken bodies walks) id) → (e : ClassEdge) → IsCovered bodies hits e ↔ IsTaken bodies walks e
      exactly hits each e =
          let law = class_taken bodies hits TakenWith entered_again followed_in is_edge
          (λ id. (
            λ hit. let f = (each id).0 hit in (f.0, f.1, sometime f.0 f.2),
            λ f. (each id).1 (f.0, f.1, taken_then f.0 f.2),
          ))
          e in
          (λ c. taken_then e (law.0 c), λ t. law.1 (sometime e t))

  pub sound : ChainsAreSound bodies
  sound walks hits are each = class_reached bodies hits (IsTaken bodies walks) (IsReached bodies walks) (entered walks are) each

  pub exact : ChainsAreExact bodies
  exact walks hits are ended each = exactly walks are ended hits each
