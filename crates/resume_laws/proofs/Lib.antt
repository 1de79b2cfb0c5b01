-- THE LAWS that join `next` to a batch. `JoinLaws` has `join`, which says that `next` from the cursor of a bookmark goes through the tests of a batch from there,
-- `join_outputs`, which says that it leaves in both outputs what that batch leaves, and `in_step`, which says that its cursor is that of the batch's bookmark.
pub mod JoinLaws
