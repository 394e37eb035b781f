-- Laws of posts: lanes of equal posts are the same posts pairwise, and what holds of each post stays.
use Rattle.std.proofs.Common.{◌≡◌, suc, List, [], ◌∷◌, length, refl, ap, ◌∙◌, subst}
use Rattle.std.proofs.lemmas.List.{get_or-map, length-map}
use Rattle.std.proofs.lemmas.List.Elements.{All-map}
use Rattle.std.specs.Prelude.{All}
use Rattle.ug_sender.specs.Lanes.{LaneView, IsSamePost}
use Rattle.ug_sender.specs.Posts.{Post, post_of, posts, AreSamePosts}

module _ {W Opening Job Said : Type 0} where
  -- a lane that is the same post has the post of the other
  pub post-same : (old new : LaneView W Opening Job Said) → IsSamePost old new → post_of new ≡ post_of old
  post-same old new same = cc

  -- and lanes of one post are the same post
  pub same-post : (old new : LaneView W Opening Job Said) → post_of new ≡ post_of old → IsSamePost old new
  same-post old new eq = ((ap (λ p. p.turnstile) eq, ap (λ p. p.number) eq, ap (λ p. p.root) eq), ap (λ p. p.peer) eq, ap (λ p. p.made_for) eq)

  pub AreSamePosts-refl : (lanes : List (LaneView W Opening Job Said)) → AreSamePosts lanes lanes
  AreSamePosts-refl [] = tt
  AreSamePosts-refl (lane ∷ lanes) = (same-post lane lane refl, AreSamePosts-refl lanes)

  pub posts-same : (olds news : List (LaneView W Opening Job Said)) → AreSamePosts olds news → posts news ≡ posts olds
  posts-same [] [] same = refl
  posts-same [] (new ∷ news) same = absurd same
  posts-same (old ∷ olds) [] same = absurd same
  posts-same (old ∷ olds) (new ∷ news) same =
      ap (λ p. p ∷ posts news) (post-same old new same.0) ∙ ap (λ ps. post_of old ∷ ps) (posts-same olds news same.1)

  pub same-posts : (olds news : List (LaneView W Opening Job Said)) → posts news ≡ posts olds → AreSamePosts olds news
  same-posts [] [] eq = tt
  same-posts [] (new ∷ news) eq = cc
  same-posts (old ∷ olds) [] eq = cc
  same-posts (old ∷ olds) (new ∷ news) eq = (same-post old new cc, same-posts olds news cc)

  pub AreSamePosts-trans : (a b c : List (LaneView W Opening Job Said)) → AreSamePosts a b → AreSamePosts b c → AreSamePosts a c
  AreSamePosts-trans a b c ab bc = same-posts a c (posts-same b c bc ∙ posts-same a b ab)

  pub AreSamePosts-length : (olds news : List (LaneView W Opening Job Said)) → AreSamePosts olds news → length news ≡ length olds
  AreSamePosts-length [] [] same = refl
  AreSamePosts-length [] (new ∷ news) same = absurd same
  AreSamePosts-length (old ∷ olds) [] same = absurd same
  AreSamePosts-length (old ∷ olds) (new ∷ news) same = ap (λ n. suc n) (AreSamePosts-length olds news same.1)

  -- what holds of each lane's post holds of each post
  pub posts-all : (P : Post Opening → Type 0) (lanes : List (LaneView W Opening Job Said)) → All (λ lane. P (post_of lane)) lanes → All P (posts lanes)
  posts-all P lanes all = All-map P post_of lanes all

  -- and the other way round
  pub all-posts : (P : Post Opening → Type 0) (lanes : List (LaneView W Opening Job Said)) → All P (posts lanes) → All (λ lane. P (post_of lane)) lanes
  all-posts P lanes all k d below =
      subst P (get_or-map post_of lanes k d (post_of d) below) (all k (post_of d) (rw (length-map lanes post_of) below))
