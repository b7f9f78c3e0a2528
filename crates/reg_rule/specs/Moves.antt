-- What a step does to the view of its seat.
use Rattle.std.specs.Prelude.{◌≡◌, ℕ, ◌+◌, ◌-◌, Bool, true, false, not, ◌&&◌, ◌||◌, ◌==◌, nat_lt, nat_le, cond, List, [], ◌∷◌, ◌++◌, length, take, drop, Option, None, Some, option_map}
use Rattle.reg_model.specs.declared.call.Call.{Call}
use Rattle.reg_model.specs.declared.call.Call.TheVariants as calls
use Rattle.reg_model.specs.declared.reply.Hit.{Hit}
use Rattle.reg_model.specs.declared.reply.Reply.{Reply}
use Rattle.reg_model.specs.declared.reply.Reply.TheVariants as replies
use Rattle.reg_model.specs.declared.reply.FullCause.TheVariants as causes
use Rattle.reg_model.specs.declared.reply.Row.{Row}
use Rattle.reg_model.specs.declared.update.Declared.{Declared}
use Rattle.reg_model.specs.declared.update.Update.{Update}
use Rattle.reg_model.specs.declared.update.Update.TheVariants.{Decl, Wd}
use Rattle.reg_model.specs.Live.{live, live_at, declarations, is_declaration}
use Rattle.reg_model.specs.Replies.{AreHits}
use Rattle.reg_words.specs.declared.word.StampWord.{StampWord}
use Rattle.reg_words.specs.declared.word.StampWord.TheVariants as stamps
use Rattle.reg_words.specs.declared.word.SweepWord.{SweepWord}
use Rattle.reg_words.specs.declared.sweeping.Swept.{Swept}
use Rattle.reg_rule.specs.declared.told.Told.{Told}
use Rattle.reg_rule.specs.declared.told.Told.TheVariants.{Row as RowOf, Opens, Closes, Begins, Refuses, Hits, Examines, Ends}
use Rattle.reg_rule.specs.declared.view.Place.{Place}
use Rattle.reg_rule.specs.declared.view.Account.{Account}
use Rattle.reg_rule.specs.declared.view.Hand.{Hand}
use Rattle.reg_rule.specs.declared.view.Found.{Found}
use Rattle.reg_rule.specs.declared.view.Cost.{Cost}
use Rattle.reg_rule.specs.declared.view.Cursor.{Cursor}
use Rattle.reg_rule.specs.declared.view.Met.{Met}
use Rattle.reg_rule.specs.declared.view.Empty.{Empty}
use Rattle.reg_rule.specs.declared.view.Taking.TheVariants as takings
use Rattle.reg_rule.specs.declared.view.Holding.{Holding}
use Rattle.reg_rule.specs.declared.view.View.{View}
use Rattle.reg_rule.specs.Log.{updates, is_declared}
use Rattle.reg_rule.specs.Helping.{helped_up_to}
use Rattle.reg_rule.specs.Tables.{are_all}

-- ---- steps and rows

abbrev pub did : View → ℕ → List ℕ
did v kind = v.made ++ kind ∷ []

-- a step of this kind, and nothing else
abbrev pub with_step : View → ℕ → View
with_step v kind = record v { made = did v kind }

abbrev pub head_number : List Account → ℕ
head_number [] = 0
head_number (a ∷ others) = a.number

abbrev pub head_rows : List Account → List Row
head_rows [] = []
head_rows (a ∷ others) = a.rows

-- the seat's own account, with a row more
abbrev pub grown : List Account → Option Row → List Account
grown accounts None = accounts
grown [] (Some row) = []
grown (a ∷ others) (Some row) = record a { rows = a.rows ++ row ∷ [] } ∷ others

-- the next row of the seat, at this number of places
abbrev pub next_row : View → Call → ℕ → Reply → Row
next_row v call places reply = record { session = head_number v.accounts; number = length (head_rows v.accounts); call = call; point = v.key.carried.base + places; reply = reply }

-- the log at a front, as the seat knows it
abbrev pub log_at : View → ℕ → List Update
log_at v k = updates (take k v.log)

abbrev pub live_list_at : View → ℕ → List Declared
live_list_at v k = live v.key.carried (log_at v k)

abbrev pub unless_declared : View → ℕ → ℕ → Option Reply
unless_declared v k id = cond (is_declared v.key.carried (take k v.log) id) None (Some (replies.Absent id))

-- what is decided where the front is found
abbrev pub front_reply : View → ℕ → Call → Option Reply
front_reply v k (calls.Declare unit) = cond (k == v.key.sizes.log) (Some (replies.Full causes.Log)) None
front_reply v k (calls.Withdraw id) = unless_declared v k id
front_reply v k (calls.Near unit radius) = None
front_reply v k (calls.Show id) = unless_declared v k id
front_reply v k calls.Count = Some (replies.Count (length (live_list_at v k)))
front_reply v k (calls.After point) = Some (cond (nat_le point (v.key.carried.base + k)) replies.Reached replies.Ahead)

abbrev pub full_at : View → ℕ → Option Declared → ℕ → Option Reply
full_at v k None id = Some (replies.Absent id)
full_at v k (Some d) id = cond (k == v.key.sizes.log) (Some (replies.Full causes.Log)) None

abbrev pub absent_of : Option Declared → ℕ → Option Reply
absent_of None id = Some (replies.Absent id)
absent_of (Some d) id = None

abbrev pub shown_of : Option Declared → Option Reply
shown_of None = None
shown_of (Some d) = Some (replies.Live d.unit)

-- what is decided by the stamp of the entry that was found
abbrev pub stamp_reply : View → ℕ → Call → Option Reply
stamp_reply v k (calls.Withdraw id) = full_at v k (live_at v.key.carried (log_at v k) id) id
stamp_reply v k (calls.Show id) = absent_of (live_at v.key.carried (log_at v k) id) id
stamp_reply v k call = None

-- what is decided by its code
abbrev pub code_reply : View → ℕ → Call → Option Reply
code_reply v k (calls.Show id) = shown_of (live_at v.key.carried (log_at v k) id)
code_reply v k call = None

-- the row is made, if this call is told and its reply is decided
abbrev pub replied_accounts : (View → ℕ → Call → Option Reply) → Told → View → ℕ → List Account
replied_accounts decides (RowOf call) v k = grown v.accounts (option_map (next_row v call k) (decides v k call))
replied_accounts decides told v k = v.accounts

abbrev pub replied : (View → ℕ → Call → Option Reply) → Told → View → ℕ → View
replied decides told v k = record v { accounts = replied_accounts decides told v k }

abbrev pub point_or : Option ℕ → ℕ → ℕ
point_or None k = k
point_or (Some n) k = n

-- the front on which the seat stands: that of its snapshot, else the last that it has found
abbrev pub standing : View → ℕ
standing v = point_or v.snapshot (point_or v.front (length v.log))

-- ---- the last step of a query

abbrev pub hits_accounts : Told → List Hit → View → List Account
hits_accounts (Hits unit radius looked) hits v = grown v.accounts (Some (next_row v (calls.Near unit radius) (standing v) (replies.Hits hits)))
hits_accounts told hits v = v.accounts

abbrev pub hits_costs : Told → List Cost → List Cost
hits_costs (Hits unit radius looked) costs = costs ++ record { unit = unit; radius = radius; looked = looked } ∷ []
hits_costs told costs = costs

abbrev pub with_hits : Told → List Hit → View → View
with_hits told hits v = record v { accounts = hits_accounts told hits v; costs = hits_costs told v.costs }

abbrev pub AreHitsOf : Told → View → List Hit → Type 0
AreHitsOf (Hits unit radius looked) v hits = AreHits (live_list_at v (standing v)) unit radius hits
AreHitsOf told v hits = Unit {0}

-- the view, with the row of a query if its last step is told
abbrev pub TellsHits : Told → View → View → Type 0
TellsHits told u w = (hits : List Hit) × AreHitsOf told u hits × (w ≡ with_hits told hits u)

-- ---- the log (kinds 1 and 2)

abbrev pub marked_at : Option Holding → ℕ → Option Holding
marked_at None k = None
marked_at (Some h) k = Some (cond (not h.word.limbo && are_all h.cut) (record h { marked = Some k }) h)

-- the front is noted under a pin, and by the holder that has unlinked an entry
abbrev pub fronted : View → ℕ → View
fronted v k = record v { front = cond (nat_lt 0 v.pin) (Some k) v.front; holding = marked_at v.holding k }

abbrev pub does_open : Told → Bool
does_open Opens = true
does_open told = false

abbrev pub opened : Told → View → ℕ → View
opened told v k = record v {
  snapshot = cond (does_open told) (Some k) v.snapshot;
  cursor = cond (does_open told) None v.cursor;
  visited = cond (does_open told) [] v.visited;
  met = cond (does_open told) [] v.met;
}

abbrev pub taken_at_empty : Option Empty → ℕ
taken_at_empty None = 0
taken_at_empty (Some e) = e.taken

-- how many entries had been given back where the ring was found empty
abbrev pub given_of : View → ℕ
given_of v = (taken_at_empty v.empty + length v.key.carried.list) - v.key.sizes.entries

abbrev pub refused_accounts : Told → View → ℕ → List Account
refused_accounts (Refuses unit) v k = grown v.accounts (Some (next_row v (calls.Declare unit) k (replies.Full (causes.Entries (given_of v)))))
refused_accounts told v k = v.accounts

abbrev pub refused : Told → View → ℕ → View
refused told v k = record v { accounts = refused_accounts told v k }

-- a declaration that could not have been made with the entries taken by then
abbrev pub is_stop : Told → View → Place → Bool
is_stop (Refuses unit) v p = is_declaration p.update && nat_lt (taken_at_empty v.empty) (declarations (updates v.log) + 1)
is_stop told v p = false

abbrev pub at_front : Told → View → ℕ → View
at_front told v k = opened told (refused told (replied front_reply told (fronted v k) (point_or v.snapshot k)) k) k

abbrev pub at_seen_accounts : Told → View → Option ℕ → List Account
at_seen_accounts told v None = v.accounts
at_seen_accounts told v (Some k) = replied_accounts front_reply told v k

abbrev pub at_seen : Told → View → Option ℕ → View
at_seen told v snapshot = record v { accounts = at_seen_accounts told v snapshot }

-- the first view or the second, which differ in these fields alone; the other fields are read off without the test
abbrev pub either : Bool → View → View → View
either b x y = record y {
  accounts = cond b x.accounts y.accounts;
  front = cond b x.front y.front;
  holding = cond b x.holding y.holding;
  snapshot = cond b x.snapshot y.snapshot;
  cursor = cond b x.cursor y.cursor;
  visited = cond b x.visited y.visited;
  met = cond b x.met y.met;
}

abbrev pub passed : View → ℕ → Place → View
passed v kind p = record v { log = v.log ++ p ∷ []; made = did v kind }

-- the next place was found filled
abbrev pub filled : Told → View → Place → View
filled told v p =
    let u = passed v 1 p in
    either (is_stop told v p) (refused told u (length v.log))
    (either (length u.log == v.key.sizes.log) (at_front told u v.key.sizes.log) (at_seen told u v.snapshot))

-- a seen place was loaded again
abbrev pub again : Told → View → View
again told v = let u = with_step v 1 in either (length v.log == v.key.sizes.log) (at_front told u v.key.sizes.log) (at_seen told u v.snapshot)

abbrev pub hands_after : Update → List Hand → List Hand
hands_after (Decl unit) hands = drop 1 hands
hands_after (Wd id) hands = hands

abbrev pub row_placed : View → Update → Row
row_placed v (Decl unit) = next_row v (calls.Declare unit) (length v.log + 1) (replies.Id (v.key.carried.base + length v.log))
row_placed v (Wd id) = next_row v (calls.Withdraw id) (length v.log + 1) (replies.Withdrawn id)

-- the record took the next place, which was the front
abbrev pub committed : View → Place → View
committed v p = record v {
  log = v.log ++ p ∷ [];
  hands = hands_after p.update v.hands;
  front = Some (length v.log);
  committed = Some (length v.log);
  accounts = grown v.accounts (Some (row_placed v p.update));
  made = did v 2;
}

-- ---- looks (kinds 3 and 7), helping (kinds 4 to 6)

abbrev pub coded : Told → View → View
coded told v = replied code_reply told (with_step v 3) (standing v)

-- the id that a stamp names, and the one that it shows live at a front
abbrev pub id_of : StampWord → Option ℕ
id_of stamps.Unborn = None
id_of (stamps.Live kind id) = Some id
id_of (stamps.Dead kind id death) = Some id

abbrev pub live_id : ℕ → ℕ → StampWord → Option ℕ
live_id base k stamps.Unborn = None
live_id base k (stamps.Live kind id) = cond (nat_lt id (base + k)) (Some id) None
live_id base k (stamps.Dead kind id death) = cond (nat_lt id (base + k) && nat_le k death) (Some id) None

abbrev pub is_dead : StampWord → Bool
is_dead stamps.Unborn = false
is_dead (stamps.Live kind id) = false
is_dead (stamps.Dead kind id death) = true

abbrev pub noted_live : Option ℕ → ℕ → ℕ → Option Found → Option Found
noted_live None k entry before = before
noted_live (Some id) k entry before = Some (record { id = id; entry = entry; place = k })

-- a declaration found live at the last front, whose places are complete
abbrev pub found_at : Option ℕ → ℕ → StampWord → View → Option Found
found_at None entry s v = v.found
found_at (Some k) entry s v = cond (helped_up_to v.helped k) (noted_live (live_id v.key.carried.base k s) k entry v.found) v.found

abbrev pub met_at : Option Cursor → ℕ → StampWord → List Met → List Met
met_at None entry s met = met
met_at (Some c) entry s met = cond (c.entry == entry) (met ++ record { table = c.table; bucket = c.bucket; entry = entry; id = id_of s } ∷ []) met

abbrev pub examining : Option Holding → ℕ → StampWord → Option Holding
examining None place s = None
examining (Some h) place s = Some (record h { place = place; stamped = is_dead s; clear = 0; way = None; behind = None; freed = 0; gave = false })

abbrev pub examined_holding : Told → StampWord → Option Holding → Option Holding
examined_holding (Examines place) s holding = examining holding place s
examined_holding told s holding = holding

abbrev pub examined : Told → StampWord → View → View
examined told s v = record v { holding = examined_holding told s v.holding }

abbrev pub looked : Told → ℕ → StampWord → View → View
looked told entry s v =
    let u = replied stamp_reply told (with_step v 7) (standing v) in
    examined told s (record u { found = found_at v.front entry s v; met = met_at v.cursor entry s v.met })

abbrev pub noted : View → ℕ → View
noted v place = record v { noted = Some place; made = did v 4 }

-- the last place seen was completed, by this step or before it
abbrev pub helped : View → ℕ → View
helped v kind = record v { helped = Some (length v.log - 1); made = did v kind }

-- ---- hands and the ring (kinds 8 to 12, 14 and 15)

abbrev pub on_hand : (Hand → Hand) → List Hand → List Hand
on_hand f [] = []
on_hand f (h ∷ hands) = f h ∷ hands

abbrev pub written : Option ℕ → Hand → Hand
written None h = record h { unborn = true }
written (Some code) h = record h { code = Some code }

abbrev pub stored_held : View → Option ℕ → View
stored_held v new = record v { hands = on_hand (written new) v.hands; made = did v 8 }

abbrev pub take_loaded : View → ℕ → View
take_loaded v found = record v { taking = takings.Begun found; made = did v 9 }

abbrev pub put_loaded : View → ℕ → ℕ → View
put_loaded v t found = record v { taking = takings.Room t found; made = did v 10 }

abbrev pub found_empty : View → ℕ → ℕ → View
found_empty v t front = record v { taking = takings.Idle; empty = Some (record { taken = t; front = front; stopped = v.stopped }); made = did v 10 }

abbrev pub give_loaded : View → ℕ → ℕ → ℕ → View
give_loaded v t p found = record v { taking = takings.Named t p found; made = did v 11 }

abbrev pub new_hand : ℕ → Hand
new_hand entry = record { entry = entry; unborn = false; code = None; linked = []; ready = None }

abbrev pub took : View → ℕ → View
took v entry = record v { taking = takings.Idle; hands = new_hand entry ∷ []; made = did v 12 }

-- a lost exchange found the count
abbrev pub missed : View → ℕ → View
missed v found = record v { taking = takings.Begun found; made = did v 12 }

abbrev pub made_ready : View → ℕ → ℕ → View
made_ready v table new = record v { hands = on_hand (λ h. record h { ready = Some (record { table = table; word = new }) }) v.hands; made = did v 14 }

abbrev pub pushed : View → ℕ → View
pushed v table = record v { hands = on_hand (λ h. record h { linked = h.linked ++ table ∷ []; ready = None }) v.hands; made = did v 15 }

-- ---- walks (kinds 13 and 16)

abbrev pub kept_met : Told → List Met → List Met
kept_met Begins met = []
kept_met told met = met

abbrev pub first_met : Told → View → ℕ → ℕ → ℕ → View
first_met told v table bucket entry = record v { cursor = Some (record { table = table; bucket = bucket; entry = entry }); visited = entry ∷ []; met = kept_met told v.met; made = did v 13 }

abbrev pub none_met : Told → View → View
none_met told v = record v { cursor = None; visited = []; met = kept_met told v.met; made = did v 13 }

abbrev pub next_met : View → Cursor → ℕ → View
next_met v c entry = record v { cursor = Some (record c { entry = entry }); visited = v.visited ++ entry ∷ []; made = did v 16 }

abbrev pub walked : View → View
walked v = record v { cursor = None; made = did v 16 }

-- ---- pins (kinds 17 and 18)

abbrev pub closed : Told → Option ℕ → Option ℕ
closed Closes snapshot = None
closed told snapshot = snapshot

abbrev pub pinned : View → View
pinned v = record v { pin = length v.log + 1; front = None; cursor = None; made = did v 17 }

abbrev pub unpinned : Told → View → View
unpinned told v = record v { pin = 0; front = None; cursor = None; snapshot = closed told v.snapshot; made = did v 17 }

abbrev pub pin_kept : View → View
pin_kept v = with_step v 17

abbrev pub on_holding : (Holding → Holding) → Option Holding → Option Holding
on_holding f None = None
on_holding f (Some h) = Some (f h)

-- a pin above a place lets it go
abbrev pub is_free : ℕ → ℕ → Bool
is_free pin place = (pin == 0) || nat_lt (place + 1) pin

abbrev pub scanned : ℕ → ℕ → Holding → Holding
scanned seat pin h =
    cond h.word.limbo
    (cond (is_free pin h.word.mark) (record h { freed = seat + 1 }) h)
    (cond (is_free pin h.place) (record h { clear = seat + 1 }) h)

abbrev pub pin_loaded : View → ℕ → ℕ → View
pin_loaded v seat found = record v { holding = on_holding (scanned seat found) v.holding; made = did v 18 }

-- ---- the sweep (kinds 19 to 22, and the holder's loads)

abbrev pub holding_of : SweepWord → Holding
holding_of word = record {
  word = record word { held = true };
  place = word.place;
  stamped = false;
  clear = 0;
  cut = [];
  way = None;
  behind = None;
  marked = None;
  freed = 0;
  put = None;
  gave = false;
  paid = false;
}

abbrev pub ended : Told → List Swept → List Swept
ended (Ends swept) sweeps = sweeps ++ swept ∷ []
ended told sweeps = sweeps

-- the sweep was taken
abbrev pub seized : View → View
seized v = record v { holding = Some (holding_of v.last_word); made = did v 19 }

-- it was found held by another
abbrev pub found_held : Told → View → View
found_held told v = record v { sweeps = ended told v.sweeps; made = did v 19 }

-- it was found elsewhere
abbrev pub found_moved : View → SweepWord → View
found_moved v word = record v { last_word = word; made = did v 19 }

-- a word is stored that keeps the sweep, or gives it back
abbrev pub swept_to : Told → View → SweepWord → View
swept_to told v word = record v {
  holding = cond word.held (Some (holding_of word)) None;
  last_word = cond word.held v.last_word word;
  stopped = cond word.held v.stopped word.place;
  sweeps = cond word.held v.sweeps (ended told v.sweeps);
  made = did v 19;
}

abbrev pub holder_did : (Holding → Holding) → View → ℕ → View
holder_did f v kind = record v { holding = on_holding f v.holding; made = did v kind }

abbrev pub behind_at : ℕ → ℕ → Holding → Holding
behind_at table word h = record h { behind = Some (record { table = table; word = word }) }

abbrev pub on_way : ℕ → ℕ → List ℕ → Holding → Holding
on_way table entry ahead h = record h { way = Some (record { table = table; entry = entry; ahead = ahead }) }

abbrev pub at_head : Holding → Holding
at_head h = record h { way = None }

abbrev pub cut_from : ℕ → Holding → Holding
cut_from table h = record h { cut = h.cut ++ table ∷ []; way = None; behind = None; marked = None }

abbrev pub put_known : ℕ → Holding → Holding
put_known found h = record h { put = Some found }

abbrev pub give_stored : Holding → Holding
give_stored h = record h { gave = true }

abbrev pub put_stored : Holding → Holding
put_stored h = record h { gave = false; put = None; paid = true }
