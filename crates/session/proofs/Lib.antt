mod Cut
mod Following
