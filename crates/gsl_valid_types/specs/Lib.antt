pub mod TypeKeys
