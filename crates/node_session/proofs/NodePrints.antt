-- The events that a stop leaves in the journal of a node make each frame that went out for the first time in its life.
use Rattle.std.proofs.Common.{◌≡◌, true, List, [], ◌∷◌, ◌++◌, length, take, refl, sym, ◌∙◌, ap, append_assoc, arith, inl, inr, ◌⊎◌}
use Rattle.std.specs.List.{flat_map}
use Rattle.std.proofs.lemmas.List.{append-nil}
use Rattle.sha2.proofs.Facts256.{length-sha256}
use Rattle.ritas_base.specs.declared.event.Event.{Event}
use Rattle.outside.specs.LinkCalls.{TookBack}
use Rattle.outside.specs.LinkCallsLaws.{back_all, back_more}
use Rattle.outside.specs.Links.{LinkAct, Starts, Gives}
use Rattle.outside.specs.declared.link.LinkItem.TheVariants as items
use Rattle.cluster_config.specs.declared.node.NodeConfig.{NodeConfig}
use Rattle.event_journal.specs.Journal.{Opens}
use Rattle.node_loop.specs.declared.archive.ArchiveFault.{ArchiveFault}
use Rattle.node_loop.specs.declared.archive.ArchiveFault.TheVariants as archive
use Rattle.node_loop.specs.declared.end.ServeEnd.{ServeEnd}
use Rattle.node_loop.specs.declared.end.ServeEnd.TheVariants as ends
use Rattle.node_loop.specs.Archives.{Moment, moment}
use Rattle.node_loop.specs.Laws.{all_frames_of}
use Rattle.node_loop.specs.LivesPrint.{first_sendings, MakesFirsts, life_deeds}
use Rattle.node_loop.specs.Outs.{Outs, Tells}
use Rattle.node_loop.specs.Recovering.{recovered}
use Rattle.node_loop.specs.Serving.{Serving, so_far, Want, Begins, Ends, Finishes, Overflows, Turns, Closes, Halts, Reminds, Asks, Round}
use Rattle.node_loop.specs.Told.{AreGroups, after_groups}
use Rattle.node_loop.proofs.Printing.{OneReading, kept_in, deeds_in, news_in, sooner_in, newest_in, earlier_in, newest_and_earlier, kept_make, all_print, older_print, either_print}
use Rattle.schedule_replay.specs.Layers.{setting_of}
use Rattle.world_model.specs.Stands.{NoneStops}
use Rattle.world_model.specs.World.{Setting}
use Rattle.node_session.specs.declared.session.Session.{Session}
use Rattle.node_session.specs.Configs.{node_header, node_session}
use Rattle.node_session.specs.Lives.{DiskBreaks, DiskKeeps, LifeEnds, LifeKept, NothingCame, head_in, life_reach}
use Rattle.node_session.specs.NodePrints.{PrintsNode, NotStarted, Started, NodeLivesPrint}
use Rattle.node_session.specs.Session.{last_acts}

-- ---- the link's start

-- of calls behind a first one some were told: none, or the first and some of the others
behind_first : (before now : List LinkAct) (first : LinkAct) (acts rest back : List LinkAct)
    → acts ++ first ∷ [] ≡ rest ++ back → now ≡ back ++ before → (now ≡ before) ⊎ TookBack (first ∷ before) now acts
behind_first before now first acts [] back parts told =
    inr (back_all (first ∷ before) now acts
    (told ∙ (ap (λ (l : List LinkAct). l ++ before) (sym parts) ∙ append_assoc acts (first ∷ []) before)))
behind_first before now first [] (x ∷ []) [] parts told = inl told
behind_first before now first [] (x ∷ []) (y ∷ back) parts told = absurd (cc)
behind_first before now first [] (x ∷ y ∷ rest) back parts told = absurd (cc)
behind_first before now first (act ∷ acts) (x ∷ rest) back parts told =
    elim (behind_first before now first acts rest back (cc) told) [
      | inl none ↦ inl none
      | inr some ↦ inr (back_more (first ∷ before) now acts (act ∷ []) some)
    ]

-- the end of the link comes last, if it comes
last_behind : (before now acts start : List LinkAct) (rule : Want) → TookBack before now (last_acts rule acts ++ start)
    → TookBack before now ((Gives items.End ∷ acts) ++ start)
last_behind before now acts start Asks took = took
last_behind before now acts start (Begins item) took = back_more before now (acts ++ start) (Gives items.End ∷ []) took
last_behind before now acts start Ends took = back_more before now (acts ++ start) (Gives items.End ∷ []) took
last_behind before now acts start Finishes took = back_more before now (acts ++ start) (Gives items.End ∷ []) took
last_behind before now acts start (Overflows x) took = back_more before now (acts ++ start) (Gives items.End ∷ []) took
last_behind before now acts start (Turns i) took = back_more before now (acts ++ start) (Gives items.End ∷ []) took
last_behind before now acts start (Closes i epoch) took = back_more before now (acts ++ start) (Gives items.End ∷ []) took
last_behind before now acts start Halts took = back_more before now (acts ++ start) (Gives items.End ∷ []) took
last_behind before now acts start (Reminds i j) took = back_more before now (acts ++ start) (Gives items.End ∷ []) took

-- ---- a life

-- where what stands or fails says as which events an image opens
module _ (x : Session) (w : Setting) (going : NoneStops w) (past : List Event) (tells : Tells) (base : Outs)
    (now : Moment) (linked : tells.link ≡ true) (es : List Event)
    (stands : (given : List Event) → now.stands given → es ≡ given ++ past)
    (fails : (fault : ArchiveFault) (group older : List Event) → now.fails fault group older
    → (es ≡ (group ++ older) ++ past) ⊎ (es ≡ older ++ past))
    (groups : List (List Round)) (are : AreGroups w past x.limits (recovered w past) groups) where
  abbrev told : List LinkAct
  told = now.outs.told

  abbrev started : List LinkAct
  started = Starts x.plan ∷ base.told

  abbrev old_calls : List LinkAct
  old_calls = sooner_in w going past groups

  abbrev acts : List LinkAct
  acts = news_in w going past groups ++ old_calls

  abbrev kept : List Event
  kept = kept_in w going past groups

  abbrev newest : List Event
  newest = newest_in w going past groups

  abbrev earlier : List Event
  earlier = earlier_in w going past groups

  abbrev Prints : Type 0
  Prints = PrintsNode w x.plan past es (life_deeds w past groups) base.told told

  -- before its start
  kept_makes : es ≡ kept ++ past → MakesFirsts w past es []
  kept_makes is =
      let made = kept_make w going past x.limits groups are in
      (first_sendings (deeds_in w going past groups), ap (all_frames_of w) is ∙ made)

  earlier_makes : (all : List (List Round)) → AreGroups w past x.limits (recovered w past) all
      → es ≡ earlier_in w going past all ++ past → MakesFirsts w past es []
  earlier_makes [] all is = ([], ap (all_frames_of w) is ∙ sym (append-nil (all_frames_of w past)))
  earlier_makes (group ∷ older) all is =
      let made = kept_make w going past x.limits older all.2 in
      (first_sendings (deeds_in w going past older), ap (all_frames_of w) is ∙ made)

  -- up to a point, all is kept
  some_left : now.stands kept → TookBack base.told told ((Gives items.End ∷ acts) ++ Starts x.plan ∷ []) → Prints
  some_left held took =
      let is = stands kept held in
      let all = Gives items.End ∷ acts in
      let behind = behind_first base.told told (Starts x.plan) all took.rest took.back took.parts took.told in
      elim behind [
        | inl none ↦ NotStarted none (kept, sym is) (kept_makes is)
        | inr some ↦ Started (all_print w going past x.limits es started told groups are is some)
      ]

  part_left : now.stands kept → (tells.link ≡ true → TookBack base.told told (acts ++ Starts x.plan ∷ [])) → Prints
  part_left held took =
      some_left held (back_more base.told told (acts ++ Starts x.plan ∷ []) (Gives items.End ∷ []) (took linked))

  whole_left : now.stands kept → (tells.link ≡ true → told ≡ (acts ++ Starts x.plan ∷ []) ++ base.told) → Prints
  whole_left held all = part_left held (λ t. back_all base.told told (acts ++ Starts x.plan ∷ []) (all t))

  -- nothing of the newest group went out
  abbrev NothingNew : Type 0
  NothingNew = (told ≡ old_calls ++ started) ⊎ (told ≡ base.told)

  earlier_left : now.stands earlier → NothingNew → Prints
  earlier_left held (inl none) =
      Started (older_print w going past x.limits es started told groups are (stands earlier held) none)
  earlier_left held (inr none) =
      let is = stands earlier held in
      NotStarted none (earlier, sym is) (earlier_makes groups are is)

  came_left : (written : List Event) → now.stands earlier
      → NothingCame x.header x.plan tells base now.outs written old_calls → Prints
  came_left written held (inl none) = earlier_left held (inl (none.1 linked))
  came_left written held (inr none) = earlier_left held (inr (none.1.told linked))

  failed : (fault : ArchiveFault) → now.fails fault newest earlier → NothingNew → Prints
  failed fault held (inl none) =
      let opens = fails fault newest earlier held in
      Started (either_print w going past x.limits es started told groups are opens none)
  failed fault held (inr none) = elim (fails fault newest earlier held) [
    | inl with_it ↦
        let is = with_it ∙ ap (λ (l : List Event). l ++ past) (newest_and_earlier w going past groups) in
        NotStarted none (kept, sym is) (kept_makes is)
    | inr without ↦ NotStarted none (earlier, sym without) (earlier_makes groups are without)
  ]

  pub life_prints : (end : ServeEnd) (before written : List Event) (s : Serving) (rule : Want)
      → LifeEnds x.header x.plan tells base now.outs end before s old_calls (news_in w going past groups) rule
      → LifeKept now (life_reach x.header x.plan tells base now.outs before written old_calls) kept newest earlier end
      → Prints
  life_prints ends.Over before written s rule so held = whole_left held so.1.told
  life_prints ends.Done before written s rule so held = whole_left held so.1.told
  life_prints ends.Limit before written s rule so held = whole_left held so.1.told
  life_prints (ends.KeptFull bytes) before written s rule so held = whole_left held so.1.told
  life_prints ends.End before written s rule so held =
      some_left held (back_all base.told told ((Gives items.End ∷ acts) ++ Starts x.plan ∷ []) (so.1.told linked))
  life_prints ends.LinkFault before written s rule so held = elim held [
    | inl all ↦ part_left all.1 so.1.told
    | inr some ↦ came_left before some.1 some.0
  ]
  life_prints ends.TapeFault before written s rule so held = elim held [
    | inl all ↦ some_left all (last_behind base.told told acts (Starts x.plan ∷ []) rule (so.1.told linked))
    | inr some ↦ earlier_left some.1 (some.0 linked)
  ]
  life_prints ends.Mem before written s rule so held = elim held [
    | inl all ↦ elim all.1 [
      | inl stood ↦ part_left stood so.1.told
      | inr broke ↦ failed archive.Mem broke.1 (broke.0 linked)
    ]
    | inr some ↦ came_left before some.1 some.0
  ]
  life_prints ends.DiskFault before written s rule so held =
      let behind = ap (λ (l : List LinkAct). old_calls ++ l) (so.2.begun.told linked) in
      failed archive.Disk held (inl (so.2.stops.order.1 linked ∙ behind))
  life_prints (ends.JournalFull size) before written s rule so held =
      let behind = ap (λ (l : List LinkAct). old_calls ++ l) (so.2.begun.told linked) in
      failed (archive.Full size) held (inl (so.2.stops.order.1 linked ∙ behind))

-- ---- a node

head_long : (config : NodeConfig) → length (head_in config) ≡ 51
head_long config =
    let size = length-sha256 (flat_map (λ key. key) (take config.p.n config.key_row) ++ config.coin_key) in
    omega (arith, size)

pub node_prints : OneReading → NodeLivesPrint
node_prints one config tells base now d end stored linked served image es may opens =
    let w = setting_of (node_header config) in
    let past = served.past in
    let reads : (fs : List Event) → Opens config.me (head_in config) image fs → es ≡ fs =
    λ fs is. one config.me (head_in config) image es fs (head_long config) opens (inr is) in
    let kept = DiskKeeps config.me (head_in config) past d in
    let broken = DiskBreaks config.me (head_in config) past d in
    life_prints (node_session config) w (λ k i. refl) past tells base (moment now kept broken) linked es
    (λ given held. reads (given ++ past) (held.images stored image may))
    (λ fault group older held. elim (held.left stored image may) [
      | inl with_it ↦ inl (reads (group ++ (older ++ past)) with_it ∙ sym (append_assoc group older past))
      | inr without ↦ inr (reads (older ++ past) without)
    ])
    served.life.groups served.life.are end _
    (so_far past (after_groups w past (recovered w past) served.life.groups)) _ _ served.life.so served.life.kept
